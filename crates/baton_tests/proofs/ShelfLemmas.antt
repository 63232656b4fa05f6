-- Shelves and their logs.
use Rattle.std.proofs.Common.{◌≡◌, ◌≢◌, ℕ, Bool, List, [], ◌∷◌, ◌++◌, map, All, sym, refl, ap, ◌∙◌, subst}
use Rattle.std.proofs.Common.{eq-eqb, ne_eqb, if◌then◌else◌}
use Rattle.std.proofs.lemmas.List.Elements.{All-nil, All-cons, All-head, All-tail, All-push}
use Rattle.baton_gate.specs.Logs.{Ahead}
use Rattle.baton_tests.specs.declared.entries.Entry.{Entry}
use Rattle.baton_tests.specs.declared.entries.Entry.TheVariants.{Step, Parked as Put}
use Rattle.baton_tests.specs.declared.shelf.Parked.{Parked}
use Rattle.baton_tests.specs.Shelf.{hart_of, heard_by, parked_in, HasBox}
use Rattle.baton_tests.specs.Boxes.{HasHeard, KnowsBoxes}

pub heard_step : (h number : ℕ) (log : List Entry) → heard_by h (Step h number ∷ log) ≡ heard_by h log ++ number ∷ []
heard_step h number log = ap (λ (b : Bool). if b then heard_by h log ++ number ∷ [] else heard_by h log) (eq-eqb h h refl)

heard_other : (h hart number : ℕ) (log : List Entry) → hart ≢ h → heard_by h (Step hart number ∷ log) ≡ heard_by h log
heard_other h hart number log ne = ap (λ (b : Bool). if b then heard_by h log ++ number ∷ [] else heard_by h log) (ne_eqb hart h ne)

-- what a hart came to does not change while others go on
heard_later : (h : ℕ) (more seen : List Entry) → All (λ e. hart_of e ≢ h) more → heard_by h (more ++ seen) ≡ heard_by h seen
heard_later h [] seen none = refl
heard_later h (Step hart number ∷ more) seen none =
    let P : Entry → Type 0 = λ e. hart_of e ≢ h in
    heard_other h hart number (more ++ seen) (All-head P (Step hart number) more none) ∙ heard_later h more seen (All-tail P (Step hart number) more none)
heard_later h (Put hart ∷ more) seen none = heard_later h more seen (All-tail (λ (e : Entry). hart_of e ≢ h) (Put hart) more none)

pub heard_ahead : (h : ℕ) (seen log : List Entry) → Ahead hart_of log h seen → heard_by h log ≡ heard_by h seen
heard_ahead h seen log a = ap (heard_by h) a.begins ∙ heard_later h a.more seen a.later

-- the harts whose boxes are there, after later entries
pub parked_later : (P : ℕ → Type 0) (more seen : List Entry) → All P (parked_in seen) → All (λ e. P (hart_of e)) more → All P (parked_in (more ++ seen))
parked_later P [] seen before later = before
parked_later P (Step hart number ∷ more) seen before later = parked_later P more seen before (All-tail (λ (e : Entry). P (hart_of e)) (Step hart number) more later)
parked_later P (Put hart ∷ more) seen before later =
    let Q : Entry → Type 0 = λ e. P (hart_of e) in
    All-push P (parked_in (more ++ seen)) hart (parked_later P more seen before (All-tail Q (Put hart) more later)) (All-head Q (Put hart) more later)

pub has_ahead : (h : ℕ) (seen log : List Entry) → Ahead hart_of log h seen → HasBox h seen → HasBox h log
has_ahead h seen log a has = subst (HasBox h) (sym a.begins) (parked_later (λ k. k ≢ h) a.more seen has a.later)

module _ {W : Type 0} (stands : W → List ℕ → Type 0) where
  abbrev harts_of : List (Parked W) → List ℕ
  harts_of boxes = map (λ (b : Parked W). b.hart) boxes

  others_heard : (boxes : List (Parked W)) (log : List Entry) (hart number : ℕ) → All (λ k. k ≢ hart) (harts_of boxes) → All (HasHeard stands log) boxes
      → All (HasHeard stands (Step hart number ∷ log)) boxes
  others_heard [] log hart number apart heard = All-nil (HasHeard stands (Step hart number ∷ log))
  others_heard (b ∷ bs) log hart number apart heard =
      let ne : b.hart ≢ hart = All-head (λ k. k ≢ hart) b.hart (harts_of bs) apart in
      let same = heard_other b.hart hart number log (λ e. ne (sym e)) in
      All-cons (HasHeard stands (Step hart number ∷ log)) b bs (subst (stands b.listener) (sym same) (All-head (HasHeard stands log) b bs heard))
      (others_heard bs log hart number (All-tail (λ k. k ≢ hart) b.hart (harts_of bs) apart) (All-tail (HasHeard stands log) b bs heard))

  pub keeps_note : (boxes : List (Parked W)) (log more : List Entry) (hart number : ℕ) → more ≡ Step hart number ∷ log → HasBox hart log → KnowsBoxes stands boxes log
      → KnowsBoxes stands boxes more
  keeps_note boxes log more hart number e has knows = subst (KnowsBoxes stands boxes) (sym e) (record {
    harts = knows.harts;
    heard = others_heard boxes log hart number (subst (λ (l : List ℕ). All (λ k. k ≢ hart) l) (sym knows.harts) has) knows.heard;
  })

  harts_push : (boxes : List (Parked W)) (b : Parked W) → harts_of (boxes ++ b ∷ []) ≡ harts_of boxes ++ b.hart ∷ []
  harts_push [] b = refl
  harts_push (x ∷ xs) b = ap (λ l. x.hart ∷ l) (harts_push xs b)

  pub keeps_park : (boxes all : List (Parked W)) (log more : List Entry) (b : Parked W) → more ≡ Put b.hart ∷ log → all ≡ boxes ++ b ∷ [] → HasHeard stands log b
      → KnowsBoxes stands boxes log → KnowsBoxes stands all more
  keeps_park boxes all log more b e f heard knows =
      let next : List Entry = Put b.hart ∷ log in
      let knows' : KnowsBoxes stands (boxes ++ b ∷ []) next = record {
        harts = harts_push boxes b ∙ ap (λ l. l ++ b.hart ∷ []) knows.harts;
        heard = All-push (HasHeard stands next) boxes b knows.heard heard;
      } in
      subst (λ (y : List (Parked W) × List Entry). KnowsBoxes stands y.0 y.1) (λ i. (sym f i, sym e i)) knows'
