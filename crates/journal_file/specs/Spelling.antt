-- The one spelling of a journal: numbers have their low byte first, and a byte in front says which case follows.
use Rattle.std.specs.Prelude.{ℕ, ◌<◌, ◌≤◌, ◌^◌, List, [], ◌∷◌, ◌++◌, length, Option, Some, None, IfSome, codes}
use Rattle.std.specs.List.{flat_map, AllByRecursion}
use Rattle.std.specs.Int.{w16, w32, w64, to_le_bytes}
use Rattle.flat_model.specs.declared.plugins.Filter.{Filter}
use Rattle.flat_model.specs.declared.plugins.KindName.{KindName}
use Rattle.flat_model.specs.declared.plugins.KindName.TheVariants as names
use Rattle.flat_model.specs.declared.plugins.Kind.{Kind}
use Rattle.flat_model.specs.declared.plugins.Act.{Act}
use Rattle.flat_model.specs.declared.plugins.Act.TheVariants as acts
use Rattle.flat_model.specs.declared.plugins.Sub.{Sub}
use Rattle.flat_model.specs.declared.plugins.SetSpec.{SetSpec}
use Rattle.flat_model.specs.declared.journals.Order.{Order}
use Rattle.flat_model.specs.declared.journals.Order.TheVariants as orders
use Rattle.flat_model.specs.declared.journals.Origin.{Origin}
use Rattle.flat_model.specs.declared.journals.Origin.TheVariants as origins
use Rattle.flat_model.specs.declared.journals.Entry.{Entry}
use Rattle.flat_model.specs.declared.journals.Entry.TheVariants as entries
use Rattle.flat_model.specs.Log.{IsJoined}
use Rattle.journal_file.specs.Head.{Head, FileState, IsHead, mode_byte}
use Rattle.journal_file.specs.Table.{op_byte, cond_byte, ask_byte}

abbrev pub name : KindName → List ℕ
name names.Counts = 0 ∷ []
name names.Hot = 1 ∷ []
name names.Mem = 2 ∷ []
name names.Exec = 3 ∷ []
name names.Classes = 4 ∷ []
name names.Pages = 5 ∷ []
name (names.Own number) = 6 ∷ to_le_bytes w32 number

abbrev pub kind : Kind → List ℕ
kind k = name k.name ++ (to_le_bytes w64 k.quota ++ ask_byte k.ask ∷ [])

abbrev pub stored : Option ℕ → List ℕ
stored None = 0 ∷ []
stored (Some value) = 1 ∷ to_le_bytes w64 value

abbrev pub act : Act → List ℕ
act (acts.Call k) = 0 ∷ kind k
act (acts.Inline op entry imm) = 1 ∷ op_byte op ∷ entry ∷ to_le_bytes w64 imm
act (acts.Cond cond entry imm then_store k) = 2 ∷ cond_byte cond ∷ entry ∷ (to_le_bytes w64 imm ++ (kind k ++ stored then_store))

abbrev pub filter : Filter → List ℕ
filter f = f.kinds ∷ (to_le_bytes w64 f.lo ++ (to_le_bytes w64 f.hi ++ (to_le_bytes w16 f.classes ++ f.rw ∷ [])))

abbrev pub sub : Sub → List ℕ
sub s = filter s.filter ++ act s.act

abbrev pub set : SetSpec → List ℕ
set s = s.entries ∷ length s.subs ∷ flat_map sub s.subs

abbrev pub origin : Origin → List ℕ
origin origins.Start = 0 ∷ []
origin (origins.Script line party) = 1 ∷ (to_le_bytes w32 line ++ party ∷ [])
origin (origins.Asked hart plugin) = 2 ∷ hart ∷ plugin ∷ []
origin (origins.Control party) = 3 ∷ party ∷ []

abbrev pub order : Order → List ℕ
order (orders.Install spec) = 0 ∷ set spec
order (orders.Register plugin spec) = 1 ∷ plugin ∷ set spec
order (orders.Reset plugin) = 2 ∷ plugin ∷ []
order (orders.Uninstall plugin) = 3 ∷ plugin ∷ []

abbrev pub entry : Entry → List ℕ
entry (entries.Turn hart n) = 1 ∷ hart ∷ to_le_bytes w32 n
entry (entries.Order from what) = 2 ∷ (origin from ++ order what)
entry (entries.Back hart plugin) = 3 ∷ hart ∷ plugin ∷ []
entry (entries.Leave hart) = 4 ∷ hart ∷ []
entry (entries.Done party plugin) = 5 ∷ party ∷ plugin ∷ []

-- the text TCGJ, the version and the number of entries
abbrev pub header : ℕ → ℕ → List ℕ
header version count = codes "TCGJ" ++ (to_le_bytes w32 version ++ to_le_bytes w64 count)

-- a file of version 1 has no head
abbrev pub version_of : Option Head → ℕ
version_of None = 1
version_of (Some head) = 2

abbrev pub head_bytes : Option Head → List ℕ
head_bytes None = []
head_bytes (Some head) = head.harts ∷ mode_byte head.mode ∷ to_le_bytes w64 head.limit

abbrev pub spelling : Option Head → List Entry → List ℕ
spelling head es = header (version_of head) (length es) ++ (head_bytes head ++ flat_map entry es)

-- ---- what has a spelling

-- the number of subscriptions of a set fits its byte
abbrev pub HasFewSubs : Order → Type 0
HasFewSubs (orders.Install spec) = length spec.subs ≤ 255
HasFewSubs (orders.Register plugin spec) = length spec.subs ≤ 255
HasFewSubs (orders.Reset plugin) = Unit {0}
HasFewSubs (orders.Uninstall plugin) = Unit {0}

abbrev pub HasFewSubsIn : Entry → Type 0
HasFewSubsIn (entries.Turn hart n) = Unit {0}
HasFewSubsIn (entries.Order from what) = HasFewSubs what
HasFewSubsIn (entries.Back hart plugin) = Unit {0}
HasFewSubsIn (entries.Leave hart) = Unit {0}
HasFewSubsIn (entries.Done party plugin) = Unit {0}

abbrev pub FitsName : KindName → Type 0
FitsName names.Counts = Unit {0}
FitsName names.Hot = Unit {0}
FitsName names.Mem = Unit {0}
FitsName names.Exec = Unit {0}
FitsName names.Classes = Unit {0}
FitsName names.Pages = Unit {0}
FitsName (names.Own number) = number < 2 ^ 32

pub record FitsKind (k : Kind) : Type 0 where
  pub name : FitsName k.name
  pub quota : k.quota < 2 ^ 64

pub record FitsInline (e i : ℕ) : Type 0 where
  pub entry : e < 2 ^ 8
  pub imm : i < 2 ^ 64

pub record FitsCond (e i : ℕ) (s : Option ℕ) (k : Kind) : Type 0 where
  pub entry : e < 2 ^ 8
  pub imm : i < 2 ^ 64
  pub kind : FitsKind k
  pub then_store : IfSome s (λ value. value < 2 ^ 64)

abbrev pub FitsAct : Act → Type 0
FitsAct (acts.Call k) = FitsKind k
FitsAct (acts.Inline op entry imm) = FitsInline entry imm
FitsAct (acts.Cond cond entry imm then_store k) = FitsCond entry imm then_store k

pub record FitsFilter (f : Filter) : Type 0 where
  pub kinds : f.kinds < 2 ^ 8
  pub lo : f.lo < 2 ^ 64
  pub hi : f.hi < 2 ^ 64
  pub classes : f.classes < 2 ^ 16
  pub rw_bits : f.rw < 2 ^ 8

pub record FitsSub (s : Sub) : Type 0 where
  pub filter : FitsFilter s.filter
  pub act : FitsAct s.act

pub record FitsSet (s : SetSpec) : Type 0 where
  pub entries : s.entries < 2 ^ 8
  pub few : length s.subs < 2 ^ 8
  pub subs : AllByRecursion FitsSub s.subs

abbrev pub FitsOrigin : Origin → Type 0
FitsOrigin origins.Start = Unit {0}
FitsOrigin (origins.Script line party) = (line < 2 ^ 32) × (party < 2 ^ 8)
FitsOrigin (origins.Asked hart plugin) = (hart < 2 ^ 8) × (plugin < 2 ^ 8)
FitsOrigin (origins.Control party) = party < 2 ^ 8

abbrev pub FitsOrder : Order → Type 0
FitsOrder (orders.Install spec) = FitsSet spec
FitsOrder (orders.Register plugin spec) = (plugin < 2 ^ 8) × FitsSet spec
FitsOrder (orders.Reset plugin) = plugin < 2 ^ 8
FitsOrder (orders.Uninstall plugin) = plugin < 2 ^ 8

abbrev pub FitsEntry : Entry → Type 0
FitsEntry (entries.Turn hart n) = (hart < 2 ^ 8) × (n < 2 ^ 32)
FitsEntry (entries.Order from what) = FitsOrigin from × FitsOrder what
FitsEntry (entries.Back hart plugin) = (hart < 2 ^ 8) × (plugin < 2 ^ 8)
FitsEntry (entries.Leave hart) = hart < 2 ^ 8
FitsEntry (entries.Done party plugin) = (party < 2 ^ 8) × (plugin < 2 ^ 8)

-- the entries of a journal, whose sets have at most 255 subscriptions each
pub record AreEntries (es : List Entry) : Type 0 where
  pub count : length es < 2 ^ 64
  pub each : AllByRecursion FitsEntry es
  pub joined : IsJoined es

-- what a file may hold
pub record IsFile (file : FileState) : Type 0 where
  pub head : IfSome file.head IsHead
  pub entries : AreEntries file.entries
