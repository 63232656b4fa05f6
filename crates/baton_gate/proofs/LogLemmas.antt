-- Logs that go on.
use Rattle.std.proofs.Common.{◌≡◌, List, [], ◌∷◌, ◌++◌, sym, refl, ap, ◌∙◌, subst, append_assoc}
use Rattle.std.proofs.lemmas.List.Elements.{All-nil, All-cons, All-append, All-weaker}
use Rattle.baton_gate.specs.Logs.{GoesOn}

module _ {I : Type 0} where
  -- a log goes on to itself
  pub goes_nowhere : (P : I → Type 0) (log : List I) → GoesOn P log log
  goes_nowhere P log = record { more = []; begins = refl; later = All-nil P }

  -- a log goes on by one item
  pub goes_once : (P : I → Type 0) (log : List I) (item : I) → P item → GoesOn P log (item ∷ log)
  goes_once P log item p = record { more = item ∷ []; begins = refl; later = All-cons P item [] p (All-nil P) }

  -- what is weaker is true of the later items too
  pub goes_weaker : (P R : I → Type 0) (a b : List I) → GoesOn P a b → ((i : I) → P i → R i) → GoesOn R a b
  goes_weaker P R a b g f = record { more = g.more; begins = g.begins; later = All-weaker P R f g.more g.later }

  -- a log that goes on twice
  pub goes_on : (P Q R : I → Type 0) (a b c : List I) → GoesOn P a b → GoesOn Q b c → ((i : I) → P i → R i) → ((i : I) → Q i → R i) → GoesOn R a c
  goes_on P Q R a b c g h f k = record {
    more = h.more ++ g.more;
    begins = h.begins ∙ ap (λ l. h.more ++ l) g.begins ∙ sym (append_assoc h.more g.more a);
    later = All-append R h.more g.more (All-weaker Q R k h.more h.later) (All-weaker P R f g.more g.later);
  }

  -- the same for an equal log
  pub goes_same : (P : I → Type 0) (a b c : List I) → GoesOn P a b → b ≡ c → GoesOn P a c
  goes_same P a b c g e = subst (λ (l : List I). GoesOn P a l) e g

  pub goes_from : (P : I → Type 0) (a b c : List I) → GoesOn P a c → a ≡ b → GoesOn P b c
  goes_from P a b c g e = subst (λ (l : List I). GoesOn P l c) e g
