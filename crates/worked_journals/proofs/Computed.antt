-- Cases are so where the judge, which computes, says what they say.
use Rattle.std.proofs.Common.{◌≡◌, ◌&&◌, ℕ, Bool, true, List, [], ◌∷◌, Option, Some, None, refl}
use Rattle.std.proofs.lemmas.Bool.{and_parts, and_from}
use Rattle.std.specs.Prelude.{map}
use Rattle.flat_model.specs.declared.journals.Entry.{Entry}
use Rattle.flat_model.specs.Registry.{registry, refusal, set_refusal, size_refusal, range_refusal, entry_refusal, box_refusal}
use Rattle.flat_model.specs.Registry.{state_refusal, count_refusal}
use Rattle.event_walk.specs.Matches.{lets_through}
use Rattle.event_walk.specs.Walk.{walk, walk_from}
use Rattle.run_rules.specs.Guest.{Run}
use Rattle.run_rules.specs.Heard.{progress}
use Rattle.run_rules.specs.Due.{turn_length, line_party, start_orders, next_line, numbered, wanted}
use Rattle.worked_journals.specs.Judge.{judge, judge_from, may_turn, is_kept, may_end}
use Rattle.worked_journals.specs.Cases.{Case, whole, broken, is_joined, IsWhole, IsSo, AreSo}
use Rattle.worked_journals.specs.Guests.{steps_of}
use Rattle.worked_journals.proofs.Judged.{judges_exactly}

abbrev pub said : Case → Option ℕ
said (whole es) = None
said (broken place es) = Some place

abbrev pub entries_of : Case → List Entry
entries_of (whole es) = es
entries_of (broken place es) = es

-- what the judge says of each case
unfoldable pub found : Run → List Case → List (Option ℕ)
unfolding registry refusal set_refusal size_refusal range_refusal entry_refusal box_refusal state_refusal count_refusal
    lets_through walk walk_from progress turn_length line_party start_orders next_line numbered wanted
    judge_from may_turn is_kept may_end steps_of
found run cases = map (λ c. judge run (entries_of c)) cases

one_so : (run : Run) (c : Case) → is_joined (entries_of c) ≡ true → judge run (entries_of c) ≡ said c → IsSo run c
one_so run (whole es) j p = record { joined = j; whole = (judges_exactly run es).whole p }
one_so run (broken place es) j p = record { joined = j; broken = (judges_exactly run es).broken place p }

-- whether each case is a journal
abbrev pub all_joined : List Case → Bool
all_joined [] = true
all_joined (c ∷ cases) = is_joined (entries_of c) && all_joined cases

pub so : (run : Run) (cases : List Case) → all_joined cases ≡ true → found run cases ≡ map said cases → AreSo run cases
unfolding found
so run [] j p = tt
so run (c ∷ cases) j p =
    let both = and_parts (is_joined (entries_of c)) (all_joined cases) j in
    let head : judge run (entries_of c) ≡ said c = cc in
    let tail : map (λ c. judge run (entries_of c)) cases ≡ map said cases = cc in
    (one_so run c both.0 head, so run cases both.1 tail)

pub is_whole : (run : Run) (es : List Entry) → is_joined es ≡ true → found run (whole es ∷ []) ≡ None ∷ [] → IsWhole run es
unfolding found
is_whole run es j p = (so run (whole es ∷ []) (and_from _ _ j refl) p).0
