-- Takes alone change nothing of what the rules see.
use Rattle.std.proofs.Common.{◌∷◌, [], ◌++◌, ◌∙◌, ℕ, List, refl}
use Rattle.flat_model.specs.declared.journals.Item.{Item}
use Rattle.flat_model.specs.declared.journals.Item.TheVariants.{Step, Ordered, GaveBack, Left, Told, Got, Took}
use Rattle.flat_model.specs.Registry.{registry}
use Rattle.flat_model.specs.Worlds.{world}
use Rattle.run_rules.specs.Heard.{progress}
use Rattle.run_rules.specs.Due.{turn_length, line_party, start_orders, next_line, wanted}
use Rattle.run_order.specs.InOrder.{Task}
use Rattle.kept_order.specs.Taking.{AreGots, LittleIsChanged, GotsChangeLittle, StillHolds, GotsKeepHartsGoing}

one_got : (t : Task) (hart number : ℕ) (past : List Item) → LittleIsChanged t past (Got hart number ∷ past)
unfolding world registry wanted start_orders next_line line_party turn_length progress
one_got t hart number past = record {
  world = refl;
  plugins = refl;
  wanted = refl;
  line = refl;
  total = refl;
  turn = λ h. refl;
  asks = λ plugin h. refl;
  there = λ h. refl;
  owes = λ h. refl;
}

changes_more : (t : Task) (past between now : List Item) → LittleIsChanged t past between
    → LittleIsChanged t between now → LittleIsChanged t past now
changes_more t past between now first next = record {
  world = next.world ∙ first.world;
  plugins = next.plugins ∙ first.plugins;
  wanted = next.wanted ∙ first.wanted;
  line = next.line ∙ first.line;
  total = next.total ∙ first.total;
  turn = λ h. next.turn h ∙ first.turn h;
  asks = λ plugin h. next.asks plugin h ∙ first.asks plugin h;
  there = λ h. next.there h ∙ first.there h;
  owes = λ h. next.owes h ∙ first.owes h;
}

none_changes : (t : Task) (past : List Item) → LittleIsChanged t past past
none_changes t past = record {
  world = refl;
  plugins = refl;
  wanted = refl;
  line = refl;
  total = refl;
  turn = λ h. refl;
  asks = λ plugin h. refl;
  there = λ h. refl;
  owes = λ h. refl;
}

pub gots_change_little : GotsChangeLittle
gots_change_little t [] past gots = none_changes t past
gots_change_little t (Step hart ∷ more) past gots = absurd gots.0
gots_change_little t (Ordered origin order ∷ more) past gots = absurd gots.0
gots_change_little t (GaveBack hart number ∷ more) past gots = absurd gots.0
gots_change_little t (Left hart ∷ more) past gots = absurd gots.0
gots_change_little t (Told party number ∷ more) past gots = absurd gots.0
gots_change_little t (Got hart number ∷ more) past gots =
    changes_more t past (more ++ past) (Got hart number ∷ (more ++ past)) (gots_change_little t more past gots.1)
    (one_got t hart number (more ++ past))
gots_change_little t (Took party number ∷ more) past gots = absurd gots.0

one_keeps : (t : Task) (h hart number : ℕ) (past : List Item) → StillHolds t h past (Got hart number ∷ past)
unfolding world registry wanted start_orders next_line line_party turn_length progress
one_keeps t h hart number past = record {
  there = λ is. is;
  owes_none = λ is. is;
  asks_nothing = λ is. is;
  passes_nothing_by = λ is. is;
  runs = λ is. is;
}

pub gots_keep_harts_going : GotsKeepHartsGoing
gots_keep_harts_going t h [] past gots = record {
  there = λ is. is;
  owes_none = λ is. is;
  asks_nothing = λ is. is;
  passes_nothing_by = λ is. is;
  runs = λ is. is;
}
gots_keep_harts_going t h (Step hart ∷ more) past gots = absurd gots.0
gots_keep_harts_going t h (Ordered origin order ∷ more) past gots = absurd gots.0
gots_keep_harts_going t h (GaveBack hart number ∷ more) past gots = absurd gots.0
gots_keep_harts_going t h (Left hart ∷ more) past gots = absurd gots.0
gots_keep_harts_going t h (Told party number ∷ more) past gots = absurd gots.0
gots_keep_harts_going t h (Got hart number ∷ more) past gots =
    let rest : StillHolds t h past (more ++ past) = gots_keep_harts_going t h more past gots.1 in
    let one : StillHolds t h (more ++ past) (Got hart number ∷ (more ++ past)) = one_keeps t h hart number (more ++ past) in
    record {
      there = λ is. one.there (rest.there is);
      owes_none = λ is. one.owes_none (rest.owes_none is);
      asks_nothing = λ is. one.asks_nothing (rest.asks_nothing is);
      passes_nothing_by = λ is. one.passes_nothing_by (rest.passes_nothing_by is);
      runs = λ is. one.runs (rest.runs is);
    }
gots_keep_harts_going t h (Took party number ∷ more) past gots = absurd gots.0
