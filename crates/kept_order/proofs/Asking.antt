-- What the sets of a hart have asked for in its steps.
use Rattle.std.proofs.Common.{◌≡◌, ◌≢◌, ◌+◌, ◌∷◌, ◌∙◌, ℕ, zero, suc, Bool, true, false, List}
use Rattle.std.proofs.Common.{Some, None, refl, sym, ap, arith, inl, inr, length}
use Rattle.std.specs.Prelude.{if◌then◌else◌}
use Rattle.std.specs.List.{cons_option}
use Rattle.std.proofs.lemmas.Bool.{cases_Bool, false≢true}
use Rattle.watcher_api.specs.Attachment.{Attachment}
use Rattle.watcher_api.specs.Acting.{IsAbsent}
use Rattle.flat_model.specs.Log.{steps}
use Rattle.run_rules.specs.Guest.{plugins}
use Rattle.run_rules.specs.Places.{place_of, is_with_hart}
use Rattle.run_rules.proofs.Turns.{plugins_keep}
use Rattle.run_order.specs.Sets.{attachment_of}
use Rattle.kept_order.specs.Hearing.{AsksWait}
use Rattle.kept_order.proofs.Listening.{MaySteps, before_steps, waits_for_none}
use Rattle.kept_order.proofs.Walking.{picked}
use Rattle.kept_order.proofs.HeardTurns.{place_keeps}

-- a set isn't among those that are picked, where its own number isn't
also_absent : (a : Attachment) (sets : List Attachment) (plugin : ℕ) → a.plugin ≢ plugin → IsAbsent plugin sets → IsAbsent plugin (a ∷ sets)
also_absent a sets plugin off rest zero d within = off
also_absent a sets plugin off rest (suc i) d within = rest i d (omega (arith, within))

one_absent : (there : Bool) (a : Attachment) (sets : List Attachment) (plugin : ℕ)
    → (there ≡ true → a.plugin ≢ plugin) → IsAbsent plugin sets → IsAbsent plugin (cons_option (if there then Some a else None) sets)
one_absent false a sets plugin off rest = rest
one_absent true a sets plugin off rest = also_absent a sets plugin (off refl) rest

picked_absent : (test : ℕ → Bool) (f : ℕ → Attachment) (plugin a n : ℕ) → ((k : ℕ) → (f k).plugin ≡ k) → test plugin ≡ false
    → IsAbsent plugin (picked test f a n)
picked_absent test f plugin a zero numbers without = λ i d within. absurd (omega (arith, within))
picked_absent test f plugin a (suc n) numbers without =
    one_absent (test a) (f a) (picked test f (a + 1) n) plugin
    (λ there e. false≢true (sym without ∙ ap test (sym e ∙ numbers a) ∙ there))
    (picked_absent test f plugin (a + 1) n numbers without)

pub asks_wait : AsksWait
asks_wait run h n past sets asks low some legal state heard others plugin one few =
    let may : MaySteps run h past = before_steps run h n past some legal state in
    elim (cases_Bool (is_with_hart (place_of run plugin h past))) [
      | inl with ↦ heard.asks plugin one few (ap is_with_hart (place_keeps run plugin h n past) ∙ with)
      | inr without ↦
          others plugin one
          (picked_absent (λ k. is_with_hart (place_of run k h past)) (λ k. attachment_of run k h past) plugin 1
          (length (plugins run past).plugins) (λ k. refl) without)
          ∙ sym (waits_for_none run h plugin past (steps h n past) low may one without (plugins_keep run h n past))
    ]
