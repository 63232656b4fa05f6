-- The numbers of touches and hits after one touch more.
use Rattle.std.proofs.Common.{◌≡◌, ℕ, ◌+◌, ◌%◌, ◌^◌, Bool, if◌then◌else◌, List, [], ◌∷◌, ◌++◌}
use Rattle.std.proofs.Common.{length, sym, ap, ◌∙◌, add_assoc, append-nil, append_assoc, arith}
use Rattle.std.proofs.Math.Nat.{mod-add-mod}
use Rattle.std.proofs.lemmas.List.{length_push}
use Rattle.cache_model.specs.declared.tallies.Tallied.{Tallied}
use Rattle.cache_model.specs.Hits.{Shape, is_hit, hits_behind, hits, tallied}

hits_behind-push : (shape : Shape) (before touches : List ℕ) (l : ℕ)
    → hits_behind shape before (touches ++ l ∷ [])
    ≡ hits_behind shape before touches + (if is_hit shape (before ++ touches) l then 1 else 0)
hits_behind-push shape before [] l =
    rw (append-nil before) (omega arith)
hits_behind-push shape before (x ∷ touches) l =
    let first = if is_hit shape before x then 1 else 0 in
    let joined : (before ++ x ∷ []) ++ touches ≡ before ++ x ∷ touches = append_assoc before (x ∷ []) touches in
    let rest = rw joined at (hits_behind-push shape (before ++ x ∷ []) touches l) in
    ap (λ n. first + n) rest
    ∙ sym (add_assoc first (hits_behind shape (before ++ x ∷ []) touches) (if is_hit shape (before ++ x ∷ touches) l then 1 else 0))

-- a touch counts once, and as a hit where it is one
pub tallied-push : (shape : Shape) (touches : List ℕ) (l : ℕ) (hit : Bool) (old new : Tallied)
    → old ≡ tallied shape touches → hit ≡ is_hit shape touches l
    → new.touches ≡ (old.touches + 1) % 2 ^ 64 → new.hits ≡ (old.hits + (if hit then 1 else 0)) % 2 ^ 64
    → new ≡ tallied shape (touches ++ l ∷ [])
tallied-push shape touches l hit old new was is touched hits_now =
    let count : (length touches % 2 ^ 64 + 1) % 2 ^ 64 ≡ length (touches ++ l ∷ []) % 2 ^ 64 =
    mod-add-mod (length touches) (2 ^ 64) 1 ∙ ap (λ n. n % 2 ^ 64) (sym (length_push touches l)) in
    let more : (hits shape touches % 2 ^ 64 + (if is_hit shape touches l then 1 else 0)) % 2 ^ 64
    ≡ hits shape (touches ++ l ∷ []) % 2 ^ 64 =
    mod-add-mod (hits shape touches) (2 ^ 64) (if is_hit shape touches l then 1 else 0)
    ∙ ap (λ n. n % 2 ^ 64) (sym (hits_behind-push shape [] touches l)) in
    let first : new.touches ≡ length (touches ++ l ∷ []) % 2 ^ 64 = touched ∙ ap (λ (t : Tallied). (t.touches + 1) % 2 ^ 64) was ∙ count in
    let second : new.hits ≡ hits shape (touches ++ l ∷ []) % 2 ^ 64 =
    hits_now ∙ ap (λ (t : Tallied). (t.hits + (if hit then 1 else 0)) % 2 ^ 64) was
    ∙ ap (λ (b : Bool). (hits shape touches % 2 ^ 64 + (if b then 1 else 0)) % 2 ^ 64) is ∙ more in
    let tally : ℕ → ℕ → Tallied = λ m n. record { touches = m; hits = n } in
    ap (λ m. tally m new.hits) first ∙ ap (tally (length (touches ++ l ∷ []) % 2 ^ 64)) second
