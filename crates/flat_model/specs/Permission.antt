-- Which accesses are permitted, byte by byte.
use Rattle.std.specs.Prelude.{ℕ, zero, suc, ◌+◌, ◌-◌, ◌*◌, ◌^◌, ◌&&◌, nat_lt, nat_le, Bool, true, false, List, []}
use Rattle.std.specs.Prelude.{◌∷◌, ◌++◌, map, length}
use Rattle.std.specs.List.{list_any}
use Rattle.flat_model.specs.declared.limits.TheConstants.{STACKS_END, STACK_STRIDE, STACK_BYTES}
use Rattle.flat_model.specs.Image.{Segment, Program}

-- how many addresses there are from an address on, with what may be done there
pub record Span : Type 0 where
  pub base : ℕ
  pub size : ℕ
  pub r : Bool
  pub w : Bool
  pub x : Bool

-- a permission to ask for
pub data Permission : Type 0 where
  Readable : Permission
  Writable : Permission
  Executable : Permission

abbrev pub grants : Permission → Span → Bool
grants Readable s = s.r
grants Writable s = s.w
grants Executable s = s.x

-- where hart h's stack begins, which is readable and writable
abbrev pub stack_base : ℕ → ℕ
stack_base h = STACKS_END - (h + 1) * STACK_STRIDE

abbrev pub stack_of : ℕ → Span
stack_of h = record { base = stack_base h; size = STACK_BYTES; r = true; w = true; x = false }

-- the stacks of harts 0 to n - 1
abbrev pub stacks : ℕ → List Span
stacks zero = []
stacks (suc n) = stacks n ++ stack_of n ∷ []

abbrev pub span_of : Segment → Span
span_of s = record { base = s.base; size = length s.bytes; r = s.r; w = s.w; x = s.x }

-- the spans of a run: the image's segments and a stack for each hart
abbrev pub spans_of : Program → ℕ → List Span
spans_of image harts = map span_of image.regions ++ stacks harts

-- the address lies in the span
abbrev pub covers : ℕ → Span → Bool
covers addr s = nat_le s.base addr && nat_lt addr (s.base + s.size)

-- one byte may be accessed
abbrev pub may_byte : List Span → Permission → ℕ → Bool
may_byte spans p addr = nat_lt addr (2 ^ 64) && list_any (λ s. grants p s && covers addr s) spans

-- each of the n bytes from addr may be accessed
unfoldable pub may : List Span → Permission → ℕ → ℕ → Bool
may spans p addr zero = true
may spans p addr (suc n) = may_byte spans p addr && may spans p (addr + 1) n
