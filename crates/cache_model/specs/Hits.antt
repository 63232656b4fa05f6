-- Which touches of lines are hits in a set-associative cache that replaces the least recently used line of a set. Each
-- line is in one set; nothing is said of what a cache keeps: a hit looks back over the touches alone.
use Rattle.std.specs.Prelude.{ℕ, ◌+◌, ◌%◌, ◌^◌, ◌==◌, ◌&&◌, ◌||◌, not, nat_lt, Bool, List, [], ◌∷◌, ◌++◌, length, reverse}
use Rattle.std.specs.Prelude.{filter, if◌then◌else◌}
use Rattle.std.specs.List.{list_any}
use Rattle.cache_model.specs.declared.tallies.Tallied.{Tallied}

-- how many sets a cache has, how many lines each of them holds at most, and the bytes of a line
pub record Shape : Type 0 where
  pub sets : ℕ
  pub ways : ℕ
  pub line : ℕ

-- the bytes that a line may have
abbrev pub is_line_size : ℕ → Bool
is_line_size n = (n == 8) || (n == 16) || (n == 32) || (n == 64) || (n == 128) || (n == 256)

-- whether two lines are in one set
abbrev pub share_a_set : ℕ → ℕ → ℕ → Bool
share_a_set sets l m = m % sets == l % sets

-- whether line l was touched
abbrev pub was_touched : List ℕ → ℕ → Bool
was_touched past l = list_any (λ m. m == l) past

-- of the touches so far, the latest first, those since line l was touched
abbrev pub since_last : List ℕ → ℕ → List ℕ
since_last [] l = []
since_last (m ∷ past) l = if m == l then [] else m ∷ since_last past l

-- each of these lines once
abbrev pub different : List ℕ → List ℕ
different [] = []
different (l ∷ ls) = l ∷ filter (λ m. not (m == l)) (different ls)

-- the different other lines of its set that were touched since line l was
abbrev pub rivals : ℕ → List ℕ → ℕ → List ℕ
rivals sets past l = different (filter (share_a_set sets l) (since_last past l))

-- whether a touch of line l is a hit, by the touches so far, the latest first: it was touched and, since the last time,
-- fewer than `ways` different other lines of its set were
abbrev pub looks_back : ℕ → ℕ → List ℕ → ℕ → Bool
looks_back sets ways past l = was_touched past l && nat_lt (length (rivals sets past l)) ways

-- the same by the touches before it, in their order
abbrev pub is_hit : Shape → List ℕ → ℕ → Bool
is_hit shape before l = looks_back shape.sets shape.ways (reverse before) l

-- how many of the touches that come behind those before are hits
abbrev pub hits_behind : Shape → List ℕ → List ℕ → ℕ
hits_behind shape before [] = 0
hits_behind shape before (l ∷ touches) = (if is_hit shape before l then 1 else 0) + hits_behind shape (before ++ l ∷ []) touches

abbrev pub hits : Shape → List ℕ → ℕ
hits shape touches = hits_behind shape [] touches

-- how many touches there are, and how many hits, modulo 2 ^ 64
abbrev pub tallied : Shape → List ℕ → Tallied
tallied shape touches = record { touches = length touches % 2 ^ 64; hits = hits shape touches % 2 ^ 64 }
