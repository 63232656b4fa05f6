-- What was read is what `read_to_end` put behind the bytes that were there, and all that the reader had left where that is within the limit.
use Rattle.std.proofs.Common.{◌≡◌, ◌≤◌, ◌<◌, ◌+◌, ◌++◌, ℕ, List, Option, Some, None, IfSome, IsTrue, is_some}
use Rattle.std.proofs.Common.{length, take, drop, ap, sym, ◌∙◌, subst, arith, length-append, length-take}
use Rattle.std.specs.Option.{option_map}
use Rattle.std.proofs.lemmas.List.{take_all, drop_at}
use Rattle.outer_io.proofs.real.read_whole.Goals as goal
use Rattle.std.proofs.lemmas.Grind.{common_steps}

split : (old new : List ℕ) → take (length old) new ≡ old → new ≡ old ++ drop (length old) new
split old new begins = grind (arith, common_steps)

short : (old new : List ℕ) (taken limit : ℕ) → length new ≡ length old + taken → taken ≤ limit → length (drop (length old) new) ≤ limit
short old new taken limit grown within = grind (arith, common_steps)

-- where fewer than `most` bytes came, they are all that was left
all_left : (left : Option (List ℕ)) (old new : List ℕ) (most taken : ℕ) → length new ≡ length old + taken → taken < most
    → IfSome (option_map (take most) left) (λ bytes. new ≡ old ++ bytes) → IsTrue (is_some left) → left ≡ Some (drop (length old) new)
all_left None old new most taken grown fewer gained told = cc
all_left (Some bytes) old new most taken grown fewer gained told =
    let count : length old + length (take most bytes) ≡ length old + taken = sym (length-append old (take most bytes)) ∙ (ap length (sym gained) ∙ grown) in
    let few : length bytes ≤ most = omega (arith, length-take most bytes) in
    let came : drop (length old) new ≡ bytes = ap (drop (length old)) gained ∙ (drop_at old (take most bytes) (length old) (omega arith) ∙ take_all most bytes few) in
    ap Some (sym came)

gained_of : (left other : Option (List ℕ)) (limit most : ℕ) (old new : List ℕ) → other ≡ left → limit ≡ most
    → IfSome (option_map (take limit) other) (λ bytes. new ≡ old ++ bytes) → IfSome (option_map (take most) left) (λ bytes. new ≡ old ++ bytes)
gained_of left other limit most old new same within gained =
    subst (λ n. IfSome (option_map (take n) left) (λ bytes. new ≡ old ++ bytes)) within
    (subst (λ known. IfSome (option_map (take limit) known) (λ bytes. new ≡ old ++ bytes)) same gained)

pub returns-in-Ok-clause-ok : goal.returns-in-Ok-clause-ok
returns-in-Ok-clause-ok g c =
    let grown : length c.read_to_end.new.buf.items ≡ length c.args.into.now.items + c.in-Ok.taken = omega (arith, c.args.into.now.ok.0, c.read_to_end.new.buf.ok.0, c.in-Ok.ensures.ok) in
    record {
      bytes = drop (length c.args.into.now.items) c.read_to_end.new.buf.items;
      gained = split c.args.into.now.items c.read_to_end.new.buf.items c.in-Ok.ensures.appends;
      within = short c.args.into.now.items c.read_to_end.new.buf.items c.in-Ok.taken c.args.limit grown (omega arith);
      is_held = λ told.
          let most_is = c.saturating_add-most.ensures in
          all_left (g.R.Read.remaining c.args.from) c.args.into.now.items c.read_to_end.new.buf.items c.saturating_add-most.result c.in-Ok.taken grown
          (omega (arith, c.read_to_end.new.buf.ok.1, c.read_to_end.new.buf.small, c.in-Ok.ensures.ok))
          (gained_of (g.R.Read.remaining c.args.from) (g.R.Read.remaining c.take.result.inner) c.take.result.limit c.saturating_add-most.result c.args.into.now.items c.read_to_end.new.buf.items
          (ap g.R.Read.remaining c.take.ensures.inner) c.take.ensures.limit c.in-Ok.ensures.bytes) told;
    }
