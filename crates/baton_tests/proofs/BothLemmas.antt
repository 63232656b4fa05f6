-- What is known of the boxes of two harts, once both have put them on the shelf.
use Rattle.std.proofs.Common.{◌≡◌, ◌≢◌, ℕ, zero, suc, ◌<◌, List, [], ◌∷◌, ◌++◌, map, All, Contains, sym, refl}
use Rattle.std.proofs.Common.{ap, ◌∙◌, subst, ◌⊎◌, inl, inr, ⊎_elim, arith}
use Rattle.std.proofs.lemmas.List.Elements.{All-nil, All-cons, All-head, All-tail, Contains-append_left}
use Rattle.baton_gate.specs.declared.passes.Pass.{Pass}
use Rattle.baton_gate.specs.declared.gate.Gate.{Gate}
use Rattle.baton_gate.specs.declared.views.Ended.{Ended}
use Rattle.baton_gate.specs.declared.views.View.{View}
use Rattle.baton_gate.specs.Logs.{GoesOn, Ahead, Within}
use Rattle.baton_gate.specs.Course.{joined, ended_of}
use Rattle.baton_gate.specs.Passes.{IsNewPass, known, seen, opening, parties, ended}
use Rattle.baton_tests.specs.declared.entries.Entry.{Entry}
use Rattle.baton_tests.specs.declared.entries.Entry.TheVariants.{Step, Parked as Put}
use Rattle.baton_tests.specs.declared.shelf.Parked.{Parked}
use Rattle.baton_tests.specs.Shelf.{hart_of, heard_by, parked_in, HasBox}
use Rattle.baton_tests.specs.Turns.{IsAtWork, IsDone}
use Rattle.baton_tests.specs.Boxes.{HasHeard, KnowsBoxes, IsBoxOf, HasBoth}
use Rattle.baton_tests.proofs.FreePasses.{new_free}
use Rattle.baton_tests.proofs.ShelfLemmas.{heard_ahead, parked_later}

-- a pass of a new gate for two
pub starts : {S F : Type 0} (gate : Gate S Entry F) (p : Pass S Entry F) (number : ℕ) (log : List Entry) (frame : F) → log ≡ [] → IsNewPass gate p number 2 log frame
    → IsAtWork gate p p.party × (heard_by p.party (seen p) ≡ [])
starts gate p number log frame none new =
    let seen_is : seen p ≡ [] = new.seen_is ∙ none in (
      record {
        between = new_free gate p number 2 log frame new;
        party_is = refl;
        of_two = record { began = new.opening_is ∙ none; count_is = new.count_is };
        own = subst (λ (l : List Entry). HasBox p.party l) (sym seen_is) (All-nil (λ k. k ≢ p.party));
      },
      ap (heard_by p.party) seen_is,
    )

all_middle : {A : Type 0} (P : A → Type 0) (xs : List A) (y : A) (zs : List A) → All P (xs ++ y ∷ zs) → P y
all_middle P [] y zs all = All-head P y zs all
all_middle P (x ∷ xs) y zs all = all_middle P xs y zs (All-tail P x (xs ++ y ∷ zs) all)

below_two : (k : ℕ) → k < 2 → (k ≡ 0) ⊎ (k ≡ 1)
below_two zero l = inl refl
below_two (suc zero) l = inr refl
below_two (suc (suc k)) l = absurd (omega arith)

still_there : (h : ℕ) (more seen : List Entry) → Contains (parked_in seen) h → Contains (parked_in (more ++ seen)) h
still_there h [] seen there = there
still_there h (Step hart number ∷ more) seen there = still_there h more seen there
still_there h (Put hart ∷ more) seen there = Contains-append_left (parked_in (more ++ seen)) (hart ∷ []) h (still_there h more seen there)

there_now : (P : Entry → Type 0) (seen log : List Entry) (h : ℕ) → GoesOn P seen log → Contains (parked_in seen) h → Contains (parked_in log) h
there_now P seen log h g there = subst (λ (l : List Entry). Contains (parked_in l) h) (sym g.begins) (still_there h g.more seen there)

module _ {W : Type 0} (stands : W → List ℕ → Type 0) where
  box_of : (log : List Entry) (b : Parked W) (h : ℕ) (numbers : List ℕ) → b.hart ≡ h → heard_by h log ≡ numbers → HasHeard stands log b → IsBoxOf stands b h numbers
  box_of log b h numbers e f know = record { hart_is = e; heard = subst (λ (l : List ℕ). stands b.listener l) (ap (λ (k : ℕ). heard_by k log) e ∙ f) know }

  each_box : (log : List Entry) (xs ys : List ℕ) → heard_by 0 log ≡ xs → heard_by 1 log ≡ ys → (boxes : List (Parked W)) → All (λ k. k < 2) (map (λ (b : Parked W). b.hart) boxes)
      → All (HasHeard stands log) boxes → All (λ b. IsBoxOf stands b 0 xs ⊎ IsBoxOf stands b 1 ys) boxes
  each_box log xs ys f g [] below know = All-nil (λ b. IsBoxOf stands b 0 xs ⊎ IsBoxOf stands b 1 ys)
  each_box log xs ys f g (b ∷ bs) below know =
      let harts : List ℕ = map (λ (b : Parked W). b.hart) bs in
      let know' : HasHeard stands log b = All-head (HasHeard stands log) b bs know in
      All-cons (λ b. IsBoxOf stands b 0 xs ⊎ IsBoxOf stands b 1 ys) b bs
      (⊎_elim (λ (e : b.hart ≡ 0). inl (box_of log b 0 xs e f know')) (λ (e : b.hart ≡ 1). inr (box_of log b 1 ys e g know')) (below_two b.hart (All-head (λ k. k < 2) b.hart harts below)))
      (each_box log xs ys f g bs (All-tail (λ k. k < 2) b.hart harts below) (All-tail (HasHeard stands log) b bs know))

  -- from what one take tells, once the second pass was joined into the first
  pub has_both : {S F : Type 0} (gate : Gate S Entry F) (first second both : Pass S Entry F) (xs ys : List ℕ) (log : List Entry) (boxes : List (Parked W)) (number number' : ℕ)
      → number ≡ 0 → number' ≡ 1 → IsDone gate first number xs → IsDone gate second number' ys
      → known both ≡ joined (known first) (known second) → both.party ≡ first.party
      → Ahead hart_of log both.party (seen both) → All (λ (e : Ended Entry). Ahead hart_of log e.party e.seen) (ended both) → Within hart_of log (parties both) (opening both)
      → KnowsBoxes stands boxes log → HasBoth stands boxes xs ys
  has_both {S} {F} gate first second both xs ys log boxes number number' n0 n1 done done' e same own others within knows =
      let own' : Ahead hart_of log 0 (seen first) =
      subst (λ (y : ℕ × List Entry). Ahead hart_of log y.0 y.1) (λ i. ((same ∙ done.party_is ∙ n0) i, ap (λ (v : View Entry F). v.seen) e i)) own in
      let Told : Ended Entry → Type 0 = λ t. Ahead hart_of log t.party t.seen in
      let told : All Told ((known first).ended ++ ended_of (known second)) = subst (λ (l : List (Ended Entry)). All Told l) (ap (λ (v : View Entry F). v.ended) e) others in
      let other : Ahead hart_of log (known second).party (seen second) = all_middle Told (known first).ended (record { party = (known second).party; seen = seen second }) (known second).ended told in
      let other' : Ahead hart_of log 1 (seen second) = subst (λ (k : ℕ). Ahead hart_of log k (seen second)) (sym done'.between.of_gate.numbered ∙ done'.party_is ∙ n1) other in
      let within' : Within hart_of log 2 [] = subst (λ (y : ℕ × List Entry). Within hart_of log y.0 y.1)
      (λ i. ((ap (λ (v : View Entry F). v.parties) e ∙ done.of_two.count_is) i, (ap (λ (v : View Entry F). v.opening) e ∙ done.of_two.began) i)) within in
      let heard : heard_by 0 log ≡ xs = heard_ahead 0 (seen first) log own' ∙ ap (λ (k : ℕ). heard_by k (seen first)) (sym n0) ∙ done.heard in
      let heard' : heard_by 1 log ≡ ys = heard_ahead 1 (seen second) log other' ∙ ap (λ (k : ℕ). heard_by k (seen second)) (sym n1) ∙ done'.heard in
      let below : All (λ k. k < 2) (parked_in log) = subst (λ (l : List Entry). All (λ k. k < 2) (parked_in l)) (sym within'.begins)
      (parked_later (λ k. k < 2) within'.more [] (All-nil (λ k. k < 2)) within'.later) in
      let there : Contains (parked_in log) 0 = there_now (λ i. hart_of i ≢ 0) (seen first) log 0 own' (subst (λ (k : ℕ). Contains (parked_in (seen first)) k) n0 done.parked) in
      let there' : Contains (parked_in log) 1 = there_now (λ i. hart_of i ≢ 1) (seen second) log 1 other' (subst (λ (k : ℕ). Contains (parked_in (seen second)) k) n1 done'.parked) in
      record {
        each = each_box log xs ys heard heard' boxes (subst (λ (l : List ℕ). All (λ k. k < 2) l) (sym knows.harts) below) knows.heard;
        first = subst (λ (l : List ℕ). Contains l 0) (sym knows.harts) there;
        second = subst (λ (l : List ℕ). Contains l 1) (sym knows.harts) there';
      }
