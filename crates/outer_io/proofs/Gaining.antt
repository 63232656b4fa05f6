-- What a sink holds once the pieces of a text are put one after the other.
use Rattle.std.proofs.Common.{◌≡◌, ◌<◌, ◌≤◌, ◌+◌, ◌-◌, min, ℕ, zero, suc, List, [], ◌∷◌, ◌++◌, length}
use Rattle.std.proofs.Common.{take, drop, Option, Some, None, refl, sym, ◌∙◌, ap, arith, append_assoc, length-take, length-drop}
use Rattle.std.specs.List.{slice_range, concat}
use Rattle.std.specs.Option.{option_map}
use Rattle.std.proofs.lemmas.List.{take-take, take-append-drop, drop-take}
use Rattle.std.proofs.lemmas.List.Folds.{concat-append}
use Rattle.outer_io.specs.Counts.{Faulted}
use Rattle.outer_io.specs.Pieces.{cut, one_piece}
use Rattle.outer_io.specs.Sinks.{Gained, StoppedAtFault, bytes_of}
use Rattle.outer_io.proofs.Cutting.{IsWhole, cut-append, one-piece-of, whole-append}

-- pieces behind pieces
pub gained_both : (before between after : Option (List (List ℕ))) (first second : List (List ℕ))
    → Gained before between first → Gained between after second → Gained before after (first ++ second)
gained_both None between after first second a b = b ∙ ap (option_map (λ held. held ++ second)) a
gained_both (Some held) between after first second a b =
    b ∙ (ap (option_map (λ held. held ++ second)) a ∙ ap Some (append_assoc held first second))

-- the bytes that were gained are those of the pieces
pub gained_bytes : (before after : Option (List (List ℕ))) (pieces : List (List ℕ)) (text : List ℕ)
    → Gained before after pieces → concat pieces ≡ text → bytes_of after ≡ option_map (λ held. held ++ text) (bytes_of before)
gained_bytes None after pieces text a e = ap bytes_of a
gained_bytes (Some held) after pieces text a e =
    ap bytes_of a ∙ ap Some (concat-append held pieces ∙ ap (λ bytes. concat held ++ bytes) e)

-- what is taken of what was taken
take_of_taken : (taken n : ℕ) (xs : List ℕ) → take taken (take n xs) ≡ take (min taken n) xs
take_of_taken zero n xs = let e : min 0 n ≡ 0 = omega arith in rw e refl
take_of_taken (suc taken) zero xs = let e : min (suc taken) 0 ≡ 0 = omega arith in rw e refl
take_of_taken (suc taken) (suc n) [] = let e : min (suc taken) (suc n) ≡ suc (min taken n) = omega arith in rw e refl
take_of_taken (suc taken) (suc n) (x ∷ xs) = let e : min (suc taken) (suc n) ≡ suc (min taken n) = omega arith in rw e (ap (λ ys. x ∷ ys) (take_of_taken taken n xs))

-- the beginning of a text and what is taken behind it
taken_behind : (done more : ℕ) (text : List ℕ) → take done text ++ take more (drop done text) ≡ take (done + more) text
taken_behind done more text =
    let below : done ≤ done + more = omega arith in
    ap (λ xs. xs ++ take more (drop done text)) (sym (take-take done (done + more) text below))
    ∙ (ap (λ xs. take done (take (done + more) text) ++ xs) (sym (drop-take done more text)) ∙ take-append-drop done (take (done + more) text))

-- the pieces of a text that goes on by this many bytes, at most a piece
cut_behind : (size done more : ℕ) (text : List ℕ) → 0 < size → more ≤ size → IsWhole size (take done text)
    → cut size (take done text) ++ one_piece (take more (drop done text)) ≡ cut size (take (done + more) text)
cut_behind size done more text some short whole =
    let fits : length (take more (drop done text)) ≤ size = omega (arith, length-take more (drop done text)) in
    sym (cut-append size (take done text) (take more (drop done text)) some fits whole) ∙ ap (cut size) (taken_behind done more text)

-- a piece behind those that were put
pub gained_piece : (before between after : Option (List (List ℕ))) (text : List ℕ) (size done end : ℕ)
    → 0 < size → done < end → end ≤ length text → end ≤ done + size → IsWhole size (take done text)
    → Gained before between (cut size (take done text)) → Gained between after (slice_range text done end ∷ [])
    → Gained before after (cut size (take end text))
gained_piece before between after text size done end some below within short whole a b =
    let reaches : done + (end - done) ≡ end = omega arith in
    let filled : 0 < length (take (end - done) (drop done text)) = omega (arith, length-take (end - done) (drop done text), length-drop done text) in
    gained_both before between after (cut size (take done text)) (take (end - done) (drop done text) ∷ []) a b
    ∙ ap (λ pieces. option_map (λ held. held ++ pieces) before)
    (ap (λ piece. cut size (take done text) ++ piece) (sym (one-piece-of (take (end - done) (drop done text)) filled))
    ∙ (cut_behind size done (end - done) text some (omega arith) whole ∙ ap (λ n. cut size (take n text)) reaches))

-- a fault in a piece is one of the text
pub stopped_in_piece : (before between after : Option (List (List ℕ))) (text : List ℕ) (size done end faults_before faults_between faults_now : ℕ)
    → 0 < size → done < end → end ≤ done + size → IsWhole size (take done text)
    → Gained before between (cut size (take done text)) → faults_between ≡ faults_before
    → StoppedAtFault one_piece between after (slice_range text done end) faults_between faults_now
    → StoppedAtFault (cut size) before after text faults_before faults_now
stopped_in_piece before between after text size done end faults_before faults_between faults_now some below short whole a faultless stopped =
    let more = min stopped.taken (end - done) in
    let same : take stopped.taken (take (end - done) (drop done text)) ≡ take more (drop done text) = take_of_taken stopped.taken (end - done) (drop done text) in
    record {
      taken = done + more;
      gained =
          gained_both before between after (cut size (take done text)) (one_piece (take stopped.taken (slice_range text done end))) a stopped.gained
          ∙ ap (λ pieces. option_map (λ held. held ++ pieces) before)
          (ap (λ piece. cut size (take done text) ++ one_piece piece) same ∙ cut_behind size done more text some (omega arith) whole);
      faulted = let was : Faulted faults_between faults_now = stopped.faulted in omega arith;
    }

-- where a whole piece was put, the text goes on in whole pieces
pub whole_piece : (text : List ℕ) (size done : ℕ) → 0 < size → done + size ≤ length text → IsWhole size (take done text) → IsWhole size (take (done + size) text)
whole_piece text size done some within whole =
    let full : length (take size (drop done text)) ≡ size = omega (arith, length-take size (drop done text), length-drop done text) in
    let next : IsWhole size (take done text ++ take size (drop done text)) = whole-append size (take done text) (take size (drop done text)) some full whole in
    rw (taken_behind done size text) at next
