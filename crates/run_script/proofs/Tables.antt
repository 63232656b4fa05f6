-- A text is read as what it names exactly where the table has it so.
use Rattle.std.proofs.Common.{◌≡◌, ◌⊎◌, ◌<◌, ◌==◌, ◌∷◌, [], ◌∙◌, ℕ, suc, Bool, true, false, List, Some}
use Rattle.std.proofs.Common.{refl, sym, ap, subst, arith, length, cond, inl, inr, bit_or}
use Rattle.std.specs.Prelude.{Contains, fold, bytes_eq, option_and_then}
use Rattle.std.specs.List.{AllZip, AllByRecursion, join_with_byte}
use Rattle.std.proofs.lemmas.Option.{option_and_then_some}
use Rattle.std.proofs.lemmas.List.Elements.{All-from_recursion, All-contains, Contains-append_right}
use Rattle.std.proofs.lemmas.List.Splits.{length-slice_split, join_with_byte-slice_split}
use Rattle.std.proofs.lemmas.Slice.Eq.{bytes_eq-Decides}
use Rattle.run_script.specs.declared.names.Names.{Names}
use Rattle.run_script.specs.declared.names.Names.TheVariants as names
use Rattle.run_script.specs.Bytes.{slash, pieces}
use Rattle.run_script.specs.Names.{named, kind_names, cond_names, event_names, class_names, rw_names, ask_names, names_of, bit_named, mask_from, mask}
use Rattle.run_script.specs.Grammar.{SpellsList, SpellsBits}
use Rattle.run_script.proofs.Signs.{Free, IsPlain, AllFree, free_plain, free_texts, pieces_joined}
use Rattle.run_script.proofs.Signs.{Each, Takes, each_plain, each_texts, each_joined}

-- which way a test went
pub chosen : {A : Type 0} (b : Bool) (x y z : A) → cond b x y ≡ z → ((b ≡ true) × (x ≡ z)) ⊎ ((b ≡ false) × (y ≡ z))
chosen true x y z e = inl (refl, e)
chosen false x y z e = inr (refl, e)

pub named_in : {A : Type 0} (table : List (A × List ℕ)) (text : List ℕ) (x : A) → named table text ≡ Some x → Contains table (x, text)
named_in [] text x e = absurd cc
named_in {A} (row ∷ rows) text x e =
    elim (chosen (bytes_eq text row.1) (Some row.0) (named rows text) (Some x) e) [
      | inl here ↦
          let what : row.0 ≡ x = cc in
          let word : text ≡ row.1 = (bytes_eq-Decides text row.1).0 here.0 in
          let whole : row ≡ (x, text) = ap (λ (v : A). (v, row.1)) what ∙ ap (λ (t : List ℕ). (x, t)) (sym word) in
          (0, omega arith, whole)
      | inr later ↦ Contains-append_right (row ∷ []) rows (x, text) (named_in rows text x later.1)
    ]

pub row_holds : {A : Type 0} (P : A × List ℕ → Type 0) (table : List (A × List ℕ)) → AllByRecursion P table → (x : A) (text : List ℕ)
    → Contains table (x, text) → P (x, text)
row_holds P table each x text in' = All-contains P table (x, text) (All-from_recursion P table each) in'

abbrev IsRead : {A : Type 0} → List (A × List ℕ) → A × List ℕ → Type 0
IsRead table row = (named table row.1 ≡ Some row.0) × IsPlain row.1

-- a name of a table is read as what it names, and has no signs
pub record ReadsNames {A : Type 0} (table : List (A × List ℕ)) : Type 0 where
  pub reads : (x : A) (text : List ℕ) → Contains table (x, text) → named table text ≡ Some x
  pub plain : (x : A) (text : List ℕ) → Contains table (x, text) → IsPlain text

reads_names : {A : Type 0} (table : List (A × List ℕ)) → AllByRecursion (IsRead table) table → ReadsNames table
reads_names table each = record {
  reads = λ x text h. (row_holds (IsRead table) table each x text h).0;
  plain = λ x text h. (row_holds (IsRead table) table each x text h).1;
}

pub kinds_read : ReadsNames kind_names
kinds_read =
    reads_names kind_names ((refl, refl), ((refl, refl), ((refl, refl), ((refl, refl), ((refl, refl), ((refl, refl), tt))))))

pub conds_read : ReadsNames cond_names
conds_read = reads_names cond_names
    ((refl, refl), ((refl, refl), ((refl, refl), ((refl, refl), ((refl, refl), ((refl, refl), ((refl, refl), ((refl, refl), tt))))))))

pub asks_read : ReadsNames ask_names
asks_read = reads_names ask_names ((refl, refl), ((refl, refl), tt))

pub rws_read : ReadsNames rw_names
rws_read = reads_names rw_names ((refl, refl), ((refl, refl), ((refl, refl), tt)))

events_read : ReadsNames event_names
events_read = reads_names event_names
    ((refl, refl), ((refl, refl), ((refl, refl), ((refl, refl), ((refl, refl), ((refl, refl), ((refl, refl), tt)))))))

classes_read : ReadsNames class_names
classes_read = reads_names class_names
    ((refl, refl), ((refl, refl), ((refl, refl), ((refl, refl), ((refl, refl), ((refl, refl), ((refl, refl), ((refl, refl), ((refl, refl), tt)))))))))

names_read : (names : Names) → ReadsNames (names_of names)
names_read names.Events = events_read
names_read names.Classes = classes_read

-- lists with a sign between each two

pub pieces_some : (c : ℕ) (text : List ℕ) → 0 < length (pieces c text)
pieces_some c text = omega (arith, length-slice_split (λ b. b == c) text)

pub length_each : {A : Type 0} (Spells : A → List ℕ → Type 0) (xs : List A) (texts : List (List ℕ)) → AllZip Spells xs texts
    → length xs ≡ length texts
length_each Spells [] [] each = refl
length_each Spells [] (t ∷ ts) each = absurd each
length_each Spells (x ∷ xs) [] each = absurd each
length_each Spells (x ∷ xs) (t ∷ ts) each = ap suc (length_each Spells xs ts each.1)

pub list_spelt : {A : Type 0} (c : ℕ) (Spells : A → List ℕ → Type 0) (xs : List A) (text : List ℕ) → AllZip Spells xs (pieces c text)
    → SpellsList c Spells xs text
list_spelt c Spells xs text each = record {
  texts = pieces c text;
  some = omega (arith, pieces_some c text, length_each Spells xs (pieces c text) each);
  each = each;
  joined = sym (join_with_byte-slice_split c text);
}

pieces_of : (c : ℕ) (texts : List (List ℕ)) → 0 < length texts → AllFree c texts → pieces c (join_with_byte c texts) ≡ texts
pieces_of c [] some free = absurd (omega arith)
pieces_of c (t ∷ ts) some free = pieces_joined c t ts free

pub list_pieces : {A : Type 0} (c : ℕ) (Spells : A → List ℕ → Type 0) → ((x : A) (text : List ℕ) → Spells x text → Free c text)
    → (xs : List A) (text : List ℕ) → (s : SpellsList c Spells xs text) → pieces c text ≡ s.texts
list_pieces c Spells free xs text s =
    ap (pieces c) s.joined
    ∙ pieces_of c s.texts (omega (arith, s.some, length_each Spells xs s.texts s.each)) (free_texts c Spells free xs s.texts s.each)

-- the bits of names

abbrev Bits : Names → ℕ → List ℕ → Type 0
Bits names bit text = Contains (names_of names) (bit, text)

masked : (names : Names) (bits r : ℕ) (texts : List (List ℕ)) → mask_from names bits texts ≡ Some r
    → (each : List ℕ) × AllZip (Bits names) each texts × (r ≡ fold bit_or bits each)
masked names bits r [] e = ([], tt, cc)
masked names bits r (t ∷ ts) e =
    option_and_then_some (λ bit. mask_from names (bit_or bits bit) ts) (bit_named names t) r e (λ bit found more.
    let rest = masked names (bit_or bits bit) r ts more in
    (bit ∷ rest.0, (named_in (names_of names) t bit found, rest.1), rest.2))

pub mask_spelt : (names : Names) (bits : ℕ) (text : List ℕ) → mask names text ≡ Some bits → SpellsBits (names_of names) bits text
mask_spelt names bits text e =
    let rest = masked names 0 bits (pieces slash text) e in
    record { each = rest.0; list = list_spelt slash (Bits names) rest.0 text rest.1; together = rest.2 }

mask_each : (names : Names) (bits : ℕ) (each : List ℕ) (texts : List (List ℕ)) → AllZip (Bits names) each texts
    → mask_from names bits texts ≡ Some (fold bit_or bits each)
mask_each names bits [] [] h = refl
mask_each names bits [] (t ∷ ts) h = absurd h
mask_each names bits (x ∷ xs) [] h = absurd h
mask_each names bits (x ∷ xs) (t ∷ ts) h =
    ap (option_and_then (λ bit. mask_from names (bit_or bits bit) ts)) ((names_read names).reads x t h.0)
    ∙ mask_each names (bit_or bits x) xs ts h.1

pub mask_reads : (names : Names) (bits : ℕ) (text : List ℕ) → SpellsBits (names_of names) bits text → mask names text ≡ Some bits
mask_reads names bits text s =
    let free = λ (x : ℕ) (t : List ℕ) (h : Bits names x t). free_plain slash t refl ((names_read names).plain x t h) in
    ap (mask_from names 0) (list_pieces slash (Bits names) free s.each text s.list)
    ∙ (mask_each names 0 s.each s.list.texts s.list.each ∙ ap (λ n. Some n) (sym s.together))

-- what plain bytes and slashes pass, names between slashes do
pub bits_each : (p : ℕ → Bool) → Each p (slash ∷ []) → Takes p → (names : Names) (bits : ℕ) (text : List ℕ)
    → SpellsBits (names_of names) bits text → Each p text
bits_each p sign takes names bits text s =
    let passes = λ (x : ℕ) (t : List ℕ) (h : Bits names x t). each_plain p t takes ((names_read names).plain x t h) in
    subst (λ t. Each p t) (sym s.list.joined)
    (each_joined p slash sign s.list.texts (each_texts p (Bits names) passes s.each s.list.texts s.list.each))
