-- The guest's memory: what it holds at each address, who may access it, and what its calls do.
use Rattle.std.specs.Prelude.{◌≡◌, ℕ, ◌<◌, ◌≤◌, ◌&&◌, Bool, true, false, if◌then◌else◌, List, [], ◌∷◌}
use Rattle.std.specs.Prelude.{◌++◌, zero, suc, replicate, map}
use Rattle.std.specs.Prelude.{length, slice_index_or, Option, None, All, AllPairs}
use Rattle.flat_model.specs.declared.limits.TheConstants.{STACKS_END, STACK_BYTES}
use Rattle.flat_model.specs.Image.{Segment, Program, AreApart, end_of, holds}
use Rattle.flat_model.specs.Permission.{Span, Permission, Readable, Writable, grants, span_of, spans_of, stack_base, may}
use Rattle.flat_model.specs.World.{opening_bytes}
use Rattle.guest_memory.specs.declared.regions.Access.{Access}
use Rattle.guest_memory.specs.declared.regions.Access.TheVariants.{Read, Write}
use Rattle.flat_model.specs.Access.{loaded, stored, ended, with_reservation, is_reserved}

-- the regions with their bytes, and each hart's reservation
pub record MemoryState : Type 0 where
  pub regions : List Segment
  pub reservations : List (Option ℕ)

-- the byte at each address
abbrev pub bytes_of : MemoryState → ℕ → ℕ
bytes_of m = opening_bytes m.regions

abbrev pub spans_in : MemoryState → List Span
spans_in m = map span_of m.regions

-- the address of the 8 bytes that each hart has reserved
abbrev pub reserved_of : MemoryState → ℕ → Option ℕ
reserved_of m h = slice_index_or m.reservations h None

abbrev pub harts_of : MemoryState → ℕ
harts_of m = length m.reservations

-- what an access asks for
abbrev pub permission_of : Access → Permission
permission_of Read = Readable
permission_of Write = Writable

-- the region grants the access to all n bytes from addr
abbrev pub admits : Access → ℕ → ℕ → Segment → Bool
admits access addr n s = grants (permission_of access) (span_of s) && holds addr n s

-- the region at place i does
pub record IsPlace (access : Access) (addr n : ℕ) (regions : List Segment) (i : ℕ) : Type 0 where
  pub below : i < length regions
  pub granted : (d : Segment) → grants (permission_of access) (span_of (slice_index_or regions i d)) ≡ true
  pub inside : (d : Segment) → holds addr n (slice_index_or regions i d) ≡ true

-- no two regions share a byte, and none reaches past the stacks
pub record IsLaidOut (regions : List Segment) : Type 0 where
  pub apart : AllPairs AreApart regions
  pub low : All (λ s. end_of s ≤ STACKS_END) regions

-- the 65,536 zeros of a stack
unfoldable pub stack_bytes : List ℕ
stack_bytes = replicate STACK_BYTES 0

abbrev pub stack_segment : ℕ → Segment
stack_segment h = record { base = stack_base h; bytes = stack_bytes; r = true; w = true; x = false }

-- the regions with the stacks of harts 0 to n - 1
unfoldable pub with_stacks : List Segment → ℕ → List Segment
with_stacks regions zero = regions
with_stacks regions (suc n) = with_stacks regions n ++ stack_segment n ∷ []

-- the memory that a run starts with
pub record IsOpening (image : Program) (harts : ℕ) (m : MemoryState) : Type 0 where
  pub spans : spans_in m ≡ spans_of image harts
  pub bytes : bytes_of m ≡ opening_bytes image.regions
  pub reserved : reserved_of m ≡ (λ _. None)
  pub count : harts_of m ≡ harts

-- a permitted load, and what it gives
pub record IsLoad (spans : List Span) (bytes : ℕ → ℕ) (addr n value : ℕ) : Type 0 where
  pub permitted : may spans Readable addr n ≡ true
  pub gives : value ≡ loaded bytes addr n

-- the regions after a store of the n low bytes of value
pub record IsWritten (old new : List Segment) (addr n value : ℕ) : Type 0 where
  pub spans : map span_of new ≡ map span_of old
  pub bytes : opening_bytes new ≡ stored (opening_bytes old) addr n value

-- hart h's permitted store of the n low bytes of value
pub record IsStore (old new : MemoryState) (h addr n value : ℕ) : Type 0 where
  pub permitted : may (spans_in old) Writable addr n ≡ true
  pub spans : spans_in new ≡ spans_in old
  pub bytes : bytes_of new ≡ stored (bytes_of old) addr n value
  pub reserved : reserved_of new ≡ ended (reserved_of old) h addr n
  pub harts : harts_of new ≡ harts_of old

-- a store that is not permitted changes nothing
pub record IsNoStore (old new : MemoryState) (addr n : ℕ) : Type 0 where
  pub not_permitted : may (spans_in old) Writable addr n ≡ false
  pub unchanged : new ≡ old

-- only hart h's reservation has changed, to r
pub record IsReserved (old new : MemoryState) (h : ℕ) (r : Option ℕ) : Type 0 where
  pub regions : new.regions ≡ old.regions
  pub reserved : reserved_of new ≡ with_reservation (reserved_of old) h r
  pub harts : harts_of new ≡ harts_of old

-- hart h's permitted store-conditional of the n low bytes of value, and whether it stored: it does exactly
-- where the hart has reserved all n bytes, and either way the hart's reservation has ended
pub record IsConditional (old new : MemoryState) (h addr n value : ℕ) (done : Bool) : Type 0 where
  pub permitted : may (spans_in old) Writable addr n ≡ true
  pub stores : done ≡ is_reserved addr n (reserved_of old h)
  pub spans : spans_in new ≡ spans_in old
  pub bytes : bytes_of new ≡ (if done then stored (bytes_of old) addr n value else bytes_of old)
  pub reserved : reserved_of new ≡ with_reservation (if done then ended (reserved_of old) h addr n else reserved_of old) h None
  pub harts : harts_of new ≡ harts_of old
