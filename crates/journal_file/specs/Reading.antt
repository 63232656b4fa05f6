-- Reading a journal file from left to right, with the first fault that is met. A whole field is judged
-- before the next one is read.
use Rattle.std.specs.Prelude.{◌≡◌, ℕ, zero, suc, ◌+◌, ◌||◌, nat_lt, ◌==◌, if◌then◌else◌, List, [], ◌∷◌}
use Rattle.std.specs.Prelude.{length, take, drop}
use Rattle.std.specs.Prelude.{Option, Some, None, Result, Ok, Err}
use Rattle.std.specs.Option.{option_and_then}
use Rattle.std.specs.Int.{Width, w16, w32, w64, byte_len, from_le_bytes}
use Rattle.flat_model.specs.declared.refusals.Refused.{Refused}
use Rattle.flat_model.specs.declared.refusals.Refused.TheVariants as refused
use Rattle.flat_model.specs.declared.plugins.Filter.{Filter}
use Rattle.flat_model.specs.declared.plugins.Op.{Op}
use Rattle.flat_model.specs.declared.plugins.Cond.{Cond}
use Rattle.flat_model.specs.declared.plugins.KindName.{KindName}
use Rattle.flat_model.specs.declared.plugins.KindName.TheVariants as names
use Rattle.flat_model.specs.declared.plugins.Kind.{Kind}
use Rattle.flat_model.specs.declared.plugins.Act.{Act}
use Rattle.flat_model.specs.declared.plugins.Act.TheVariants as acts
use Rattle.flat_model.specs.declared.plugins.Sub.{Sub}
use Rattle.flat_model.specs.declared.plugins.SetSpec.{SetSpec}
use Rattle.flat_model.specs.declared.journals.Order.{Order}
use Rattle.flat_model.specs.declared.journals.Order.TheVariants as orders
use Rattle.flat_model.specs.declared.journals.Origin.{Origin}
use Rattle.flat_model.specs.declared.journals.Origin.TheVariants as origins
use Rattle.flat_model.specs.declared.journals.Entry.{Entry}
use Rattle.flat_model.specs.declared.journals.Entry.TheVariants as entries
use Rattle.flat_model.specs.Kinds.{staying, resetting, uninstalling}
use Rattle.flat_model.specs.Log.{turning, are_one}
use Rattle.journal_file.specs.declared.refusal.Fault.{Fault}
use Rattle.journal_file.specs.declared.refusal.Fault.TheVariants as faults
use Rattle.journal_file.specs.declared.refusal.FileRefusal.{FileRefusal}
use Rattle.journal_file.specs.declared.refusal.FileRefusal.TheVariants.{Short, Magic, Version, BadHead, BadEntry, Extra}
use Rattle.journal_file.specs.Head.{Head, FileState, head_of, mode_of}
use Rattle.journal_file.specs.Table.{op_of, cond_of}

infixl 10 ◌>>=◌
abbrev pub ◌>>=◌ : {A B E : Type 0} → Result A E → (A → Result B E) → Result B E
(Ok x) >>= f = f x
(Err e) >>= f = Err e

-- What a function returned, seen by view, is what reading gives, unless memory ran out.
abbrev pub Fails : {Y E : Type 0} → Refused E → Result Y E → Type 0
Fails (refused.Because e) read = read ≡ Err e
Fails refused.NoMemory read = Unit {0}

abbrev pub Gives : {X Y E : Type 0} → (X → Y) → Result X (Refused E) → Result Y E → Type 0
Gives view (Ok x) read = read ≡ Ok (view x)
Gives view (Err e) read = Fails e read

-- A field is a value and the bytes after it.
abbrev pub Field : Type 0 → Type 0
Field A = Result (A × List ℕ) Fault

abbrev pub byte_at : List ℕ → Field ℕ
byte_at [] = Err faults.Short
byte_at (b ∷ rest) = Ok (b, rest)

abbrev pub number_at : Width → List ℕ → Field ℕ
number_at w bytes =
    if nat_lt (length bytes) (byte_len w) then Err faults.Short
    else Ok (from_le_bytes w (take (byte_len w) bytes), drop (byte_len w) bytes)

-- a byte that stands for something
abbrev pub known : {A : Type 0} → ℕ → List ℕ → Option A → Field A
known b rest None = Err (faults.Bad b)
known b rest (Some x) = Ok (x, rest)

unfoldable pub op_at : List ℕ → Field Op
op_at bytes = do
  b ← byte_at bytes
  known b.0 b.1 (op_of b.0)

unfoldable pub cond_at : List ℕ → Field Cond
cond_at bytes = do
  b ← byte_at bytes
  known b.0 b.1 (cond_of b.0)

-- the rest of a kind's name, behind its first byte
abbrev pub named : ℕ → List ℕ → Field KindName
named zero rest = Ok (names.Counts, rest)
named (suc zero) rest = Ok (names.Hot, rest)
named (suc (suc zero)) rest = Ok (names.Mem, rest)
named (suc (suc (suc zero))) rest = Ok (names.Exec, rest)
named (suc (suc (suc (suc zero)))) rest = Ok (names.Classes, rest)
named (suc (suc (suc (suc (suc zero))))) rest = Ok (names.Pages, rest)
named (suc (suc (suc (suc (suc (suc zero)))))) rest = do
  n ← number_at w32 rest
  Ok (names.Own n.0, n.1)
named (suc (suc (suc (suc (suc (suc (suc b))))))) rest = Err (faults.Bad (suc (suc (suc (suc (suc (suc (suc b))))))))

unfoldable pub name_at : List ℕ → Field KindName
name_at bytes = do
  b ← byte_at bytes
  named b.0 b.1

-- a kind with the ask that a byte stands for: stay exactly where there is no quota
abbrev pub kind_of : KindName → ℕ → ℕ → Result Kind Fault
kind_of name zero zero = Ok (staying name)
kind_of name zero (suc b) = Err (faults.Bad (suc b))
kind_of name (suc q) zero = Err (faults.Bad 0)
kind_of name (suc q) (suc zero) = Ok (resetting name q)
kind_of name (suc q) (suc (suc zero)) = Ok (uninstalling name q)
kind_of name (suc q) (suc (suc (suc b))) = Err (faults.Bad (suc (suc (suc b))))

unfoldable pub kind_at : List ℕ → Field Kind
kind_at bytes = do
  name ← name_at bytes
  quota ← number_at w64 name.1
  ask ← byte_at quota.1
  kind ← kind_of name.0 quota.0 ask.0
  Ok (kind, ask.1)

-- what is stored, behind its flag
abbrev pub flagged : ℕ → List ℕ → Field (Option ℕ)
flagged zero rest = Ok (None, rest)
flagged (suc zero) rest = do
  n ← number_at w64 rest
  Ok (Some n.0, n.1)
flagged (suc (suc b)) rest = Err (faults.Bad (suc (suc b)))

unfoldable pub stored_at : List ℕ → Field (Option ℕ)
stored_at bytes = do
  flag ← byte_at bytes
  flagged flag.0 flag.1

unfoldable pub inline_at : List ℕ → Field Act
inline_at bytes = do
  op ← op_at bytes
  entry ← byte_at op.1
  imm ← number_at w64 entry.1
  Ok (acts.Inline op.0 entry.0 imm.0, imm.1)

unfoldable pub conditional_at : List ℕ → Field Act
conditional_at bytes = do
  cond ← cond_at bytes
  entry ← byte_at cond.1
  imm ← number_at w64 entry.1
  kind ← kind_at imm.1
  stored ← stored_at kind.1
  Ok (acts.Cond cond.0 entry.0 imm.0 stored.0 kind.0, stored.1)

-- the rest of an act, behind its first byte
abbrev pub acted : ℕ → List ℕ → Field Act
acted zero rest = do
  kind ← kind_at rest
  Ok (acts.Call kind.0, kind.1)
acted (suc zero) rest = inline_at rest
acted (suc (suc zero)) rest = conditional_at rest
acted (suc (suc (suc b))) rest = Err (faults.Bad (suc (suc (suc b))))

unfoldable pub act_at : List ℕ → Field Act
act_at bytes = do
  b ← byte_at bytes
  acted b.0 b.1

unfoldable pub filter_at : List ℕ → Field Filter
filter_at bytes = do
  kinds ← byte_at bytes
  lo ← number_at w64 kinds.1
  hi ← number_at w64 lo.1
  classes ← number_at w16 hi.1
  access ← byte_at classes.1
  Ok (record { kinds = kinds.0; lo = lo.0; hi = hi.0; classes = classes.0; rw = access.0 }, access.1)

unfoldable pub sub_at : List ℕ → Field Sub
sub_at bytes = do
  filter ← filter_at bytes
  act ← act_at filter.1
  Ok (record { filter = filter.0; act = act.0 }, act.1)

unfoldable pub subs_at : ℕ → List ℕ → Field (List Sub)
subs_at zero bytes = Ok ([], bytes)
subs_at (suc n) bytes = do
  first ← sub_at bytes
  others ← subs_at n first.1
  Ok (first.0 ∷ others.0, others.1)

unfoldable pub set_at : List ℕ → Field SetSpec
set_at bytes = do
  entries ← byte_at bytes
  count ← byte_at entries.1
  subs ← subs_at count.0 count.1
  Ok (record { entries = entries.0; subs = subs.0 }, subs.1)

-- the rest of an origin, behind its first byte
abbrev pub given : ℕ → List ℕ → Field Origin
given zero rest = Ok (origins.Start, rest)
given (suc zero) rest = do
  line ← number_at w32 rest
  party ← byte_at line.1
  Ok (origins.Script line.0 party.0, party.1)
given (suc (suc zero)) rest = do
  hart ← byte_at rest
  plugin ← byte_at hart.1
  Ok (origins.Asked hart.0 plugin.0, plugin.1)
given (suc (suc (suc zero))) rest = do
  party ← byte_at rest
  Ok (origins.Control party.0, party.1)
given (suc (suc (suc (suc b)))) rest = Err (faults.Bad (suc (suc (suc (suc b)))))

unfoldable pub origin_at : List ℕ → Field Origin
origin_at bytes = do
  b ← byte_at bytes
  given b.0 b.1

-- the rest of an order, behind its first byte
abbrev pub ordered : ℕ → List ℕ → Field Order
ordered zero rest = do
  spec ← set_at rest
  Ok (orders.Install spec.0, spec.1)
ordered (suc zero) rest = do
  plugin ← byte_at rest
  spec ← set_at plugin.1
  Ok (orders.Register plugin.0 spec.0, spec.1)
ordered (suc (suc zero)) rest = do
  plugin ← byte_at rest
  Ok (orders.Reset plugin.0, plugin.1)
ordered (suc (suc (suc zero))) rest = do
  plugin ← byte_at rest
  Ok (orders.Uninstall plugin.0, plugin.1)
ordered (suc (suc (suc (suc b)))) rest = Err (faults.Bad (suc (suc (suc (suc b)))))

unfoldable pub order_at : List ℕ → Field Order
order_at bytes = do
  b ← byte_at bytes
  ordered b.0 b.1

-- a Turn of another hart than the Turn before, with steps
unfoldable pub turn_at : Option ℕ → List ℕ → Field Entry
turn_at last bytes = do
  hart ← byte_at bytes
  other ← (if are_one last (Some hart.0) then Err (faults.Bad hart.0) else Ok hart.0)
  n ← number_at w32 hart.1
  if n.0 == 0 then Err (faults.Bad 0) else Ok (entries.Turn hart.0 n.0, n.1)

-- the rest of an entry, behind its first byte; last is the hart of the Turn before
abbrev pub entered : Option ℕ → ℕ → List ℕ → Field Entry
entered last zero rest = Err (faults.Bad 0)
entered last (suc zero) rest = turn_at last rest
entered last (suc (suc zero)) rest = do
  origin ← origin_at rest
  order ← order_at origin.1
  Ok (entries.Order origin.0 order.0, order.1)
entered last (suc (suc (suc zero))) rest = do
  hart ← byte_at rest
  plugin ← byte_at hart.1
  Ok (entries.Back hart.0 plugin.0, plugin.1)
entered last (suc (suc (suc (suc zero)))) rest = do
  hart ← byte_at rest
  Ok (entries.Leave hart.0, hart.1)
entered last (suc (suc (suc (suc (suc zero))))) rest = do
  party ← byte_at rest
  plugin ← byte_at party.1
  Ok (entries.Done party.0 plugin.0, plugin.1)
entered last (suc (suc (suc (suc (suc (suc b)))))) rest = Err (faults.Bad (suc (suc (suc (suc (suc (suc b)))))))

unfoldable pub entry_at : Option ℕ → List ℕ → Field Entry
entry_at last bytes = do
  b ← byte_at bytes
  entered last b.0 b.1

-- a fault in the entry with index place
abbrev pub refusal_at : ℕ → Fault → FileRefusal
refusal_at place faults.Short = Short place
refusal_at place (faults.Bad byte) = BadEntry place byte

abbrev pub placed : {A : Type 0} → ℕ → Result A Fault → Result A FileRefusal
placed place (Ok x) = Ok x
placed place (Err fault) = Err (refusal_at place fault)

-- the same, of what a function returned
abbrev pub refused_at : ℕ → Refused Fault → Refused FileRefusal
refused_at place (refused.Because fault) = refused.Because (refusal_at place fault)
refused_at place refused.NoMemory = refused.NoMemory

-- as many entries as said, from the one with index place on
unfoldable pub entries_at : ℕ → Option ℕ → ℕ → List ℕ → Result (List Entry × List ℕ) FileRefusal
entries_at place last zero bytes = Ok ([], bytes)
entries_at place last (suc n) bytes = do
  first ← placed place (entry_at last bytes)
  others ← entries_at (place + 1) (turning first.0) n first.1
  Ok (first.0 ∷ others.0, others.1)

-- the version, behind 0x4A474354, which is the text TCGJ
unfoldable pub version_at : List ℕ → Result (ℕ × List ℕ) FileRefusal
version_at bytes = do
  magic ← placed 0 (number_at w32 bytes)
  same ← (if magic.0 == 0x4A474354 then Ok magic.0 else Err Magic)
  version ← placed 0 (number_at w32 magic.1)
  if version.0 == 1 || version.0 == 2 then Ok version else Err (Version version.0)

-- a head, before the bytes after it, where there is one
abbrev pub headed : List ℕ → Option Head → Result (Option Head × List ℕ) FileRefusal
headed rest None = Err BadHead
headed rest (Some head) = Ok (Some head, rest)

-- the head of version 2, read to its end before its numbers are judged together
unfoldable pub run_head_at : List ℕ → Result (Option Head × List ℕ) FileRefusal
run_head_at bytes = do
  harts ← placed 0 (byte_at bytes)
  mode ← placed 0 (byte_at harts.1)
  limit ← placed 0 (number_at w64 mode.1)
  headed limit.1 (option_and_then (λ m. head_of harts.0 m limit.0) (mode_of mode.0))

-- the head that a version has
unfoldable pub head_at : ℕ → List ℕ → Result (Option Head × List ℕ) FileRefusal
head_at version bytes = if version == 1 then Ok (None, bytes) else run_head_at bytes

-- as many entries as said, and nothing behind them
unfoldable pub body_at : ℕ → List ℕ → Result (List Entry) FileRefusal
body_at count bytes = do
  es ← entries_at 0 None count bytes
  if length es.1 == 0 then Ok es.0 else Err (Extra (length es.1))

-- all of the bytes
unfoldable pub file_at : List ℕ → Result FileState FileRefusal
file_at bytes = do
  version ← version_at bytes
  count ← placed 0 (number_at w64 version.1)
  head ← head_at version.0 count.1
  es ← body_at count.0 head.1
  Ok (record { head = head.0; entries = es })
