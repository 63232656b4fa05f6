-- A head is read as what its text spells.
use Rattle.std.proofs.Common.{◌≡◌, ◌+◌, ◌-◌, ◌&&◌, ◌||◌, ◌∷◌, [], ◌++◌, ◌∙◌, ℕ, Bool, true, false}
use Rattle.std.proofs.Common.{List, Option, Some, None, Result, Ok, refl, sym, ap, subst, arith, cond, length, take, drop, inl, inr, codes}
use Rattle.std.proofs.Common.{append_assoc}
use Rattle.std.specs.Prelude.{Contains, bytes_eq, is_some}
use Rattle.std.proofs.lemmas.List.{take_at, drop_at, length-append}
use Rattle.std.proofs.lemmas.Slice.Eq.{bytes_eq-Decides}
use Rattle.flat_model.specs.declared.plugins.KindName.{KindName}
use Rattle.flat_model.specs.declared.plugins.Op.{Op}
use Rattle.flat_model.specs.declared.plugins.Op.TheVariants.{Add, Store}
use Rattle.flat_model.specs.declared.plugins.Cond.{Cond}
use Rattle.run_script.specs.declared.refusals.SpecRule.{SpecRule}
use Rattle.run_script.specs.declared.heads.Head.{Head}
use Rattle.run_script.specs.declared.heads.Head.TheVariants.{Boxed, Inline, When}
use Rattle.run_script.specs.Bytes.{before, after, tail_len, colon}
use Rattle.run_script.specs.Names.{kind_names, cond_names, kind_named, cond_named}
use Rattle.run_script.specs.Numbers.{number, entry_number}
use Rattle.run_script.specs.Heads.{inline_of, inline_after, inline_head, when_of, when_numbers, when_named, when_tail, when_after}
use Rattle.run_script.specs.Heads.{when_head, worded_head, act_head, or_act, head_of, calls_a_box, does_call}
use Rattle.run_script.specs.Grammar.{SpellsHead, SpellsEntry, SpellsNum, op_word}
use Rattle.run_script.proofs.Signs.{Free, is_plain, free_plain, before_at, after_at, cut_joins, tail_at, CutsLast, tail_cuts}
use Rattle.run_script.proofs.Signs.{Each, other, Takes, differs, each_plain, each_append}
use Rattle.run_script.proofs.Tables.{chosen, named_in, kinds_read, conds_read}
use Rattle.run_script.proofs.Digits.{number_spelt, number_reads, entry_spelt, entry_reads, digits_plain}

abbrev ok : Head → Result Head SpecRule
ok head = Ok head

same_head : (made head : Head) → ok made ≡ ok head → made ≡ head
same_head made head e = cc

made_is : (text : List ℕ) (made head : Head) → ok made ≡ ok head → SpellsHead made text → SpellsHead head text
made_is text made head e s = subst (λ h. SpellsHead h text) (same_head made head e) s

inline_made : (op : Op) (e i : Option ℕ) (head : Head) → inline_of op e i ≡ Ok head
    → (entry imm : ℕ) × (e ≡ Some entry) × (i ≡ Some imm) × (ok (Inline op entry imm) ≡ ok head)
inline_made op None i head h = absurd cc
inline_made op (Some entry) None head h = absurd cc
inline_made op (Some entry) (Some imm) head h = (entry, imm, refl, refl, h)

inline_spelt : (op : Op) (text rest : List ℕ) (imm : Option (List ℕ)) (head : Head) → text ≡ op_word op ++ rest → after colon rest ≡ imm
    → inline_after op (before colon rest) imm ≡ Ok head → SpellsHead head text
inline_spelt op text rest None head at cut h = absurd cc
inline_spelt op text rest (Some imm) head at cut h =
    let e = before colon rest in
    let m = inline_made op (entry_number e) (number 10 20 imm) head h in
    made_is text (Inline op m.0 m.1) head m.4
    (e, imm, entry_spelt m.0 e m.2, number_spelt 10 20 m.1 imm m.3, at ∙ ap (λ r. op_word op ++ r) (cut_joins colon rest imm cut))

when_made : (cond : Cond) (kind : KindName) (e i : Option ℕ) (head : Head) → when_of cond kind e i ≡ Ok head
    → (entry imm : ℕ) × (e ≡ Some entry) × (i ≡ Some imm) × (ok (When cond entry imm kind) ≡ ok head)
when_made cond kind None i head h = absurd cc
when_made cond kind (Some entry) None head h = absurd cc
when_made cond kind (Some entry) (Some imm) head h = (entry, imm, refl, refl, h)

-- a text of `when:`, with its condition, what stands in the middle, and its kind
abbrev when_text : List ℕ → List ℕ → List ℕ → List ℕ
when_text c middle k = codes "when:" ++ (c ++ colon ∷ (middle ++ colon ∷ k))

numbers_spelt : (cond : Cond) (kind : KindName) (c middle k : List ℕ) (imm : Option (List ℕ)) (head : Head)
    → Contains cond_names (cond, c) → Contains kind_names (kind, k) → after colon middle ≡ imm
    → when_numbers cond kind (before colon middle) imm ≡ Ok head → SpellsHead head (when_text c middle k)
numbers_spelt cond kind c middle k None head is_cond is_kind cut h = absurd cc
numbers_spelt cond kind c middle k (Some imm) head is_cond is_kind cut h =
    let e = before colon middle in
    let m = when_made cond kind (entry_number e) (number 10 20 imm) head h in
    let joined : middle ++ colon ∷ k ≡ e ++ colon ∷ (imm ++ colon ∷ k) =
    ap (λ t. t ++ colon ∷ k) (cut_joins colon middle imm cut) ∙ append_assoc e (colon ∷ imm) (colon ∷ k) in
    made_is (when_text c middle k) (When cond m.0 m.1 kind) head m.4 (
      c,
      e,
      imm,
      k,
      is_cond,
      entry_spelt m.0 e m.2,
      number_spelt 10 20 m.1 imm m.3,
      is_kind,
      ap (λ t. codes "when:" ++ (c ++ colon ∷ t)) joined,
    )

named_spelt : (c middle k : List ℕ) (cond : Option Cond) (kind : Option KindName) (head : Head)
    → cond_named c ≡ cond → kind_named k ≡ kind → when_named cond kind middle ≡ Ok head → SpellsHead head (when_text c middle k)
named_spelt c middle k None kind head is_cond is_kind h = absurd cc
named_spelt c middle k (Some cond) None head is_cond is_kind h = absurd cc
named_spelt c middle k (Some cond) (Some kind) head is_cond is_kind h =
    numbers_spelt cond kind c middle k (after colon middle) head (named_in cond_names c cond is_cond) (named_in kind_names k kind is_kind) refl h

-- what stands before and after the last colon
last_parts : (text : List ℕ) (n : ℕ) → (cut : CutsLast colon text n)
    → (drop (length text - n) text ≡ cut.back) × (take (length text - n - 1) text ≡ cut.front)
last_parts text n cut =
    let size : length text ≡ length cut.front + length (colon ∷ cut.back) =
    ap length cut.joined ∙ length-append cut.front (colon ∷ cut.back) in
    let same : n ≡ length cut.back = cut.size in
    let whole : text ≡ (cut.front ++ colon ∷ []) ++ cut.back = cut.joined ∙ sym (append_assoc cut.front (colon ∷ []) cut.back) in
    let most : length (cut.front ++ colon ∷ []) ≡ length text - n = length-append cut.front (colon ∷ []) ∙ omega arith in
    let less : length cut.front ≡ length text - n - 1 = omega arith in (
      ap (drop (length text - n)) whole ∙ drop_at (cut.front ++ colon ∷ []) cut.back (length text - n) most,
      ap (take (length text - n - 1)) cut.joined ∙ take_at cut.front (colon ∷ cut.back) (length text - n - 1) less,
    )

tail_spelt : (c rest : List ℕ) (tail : Option ℕ) (head : Head) → tail_len colon rest ≡ tail → when_tail (cond_named c) rest tail ≡ Ok head
    → SpellsHead head (codes "when:" ++ (c ++ colon ∷ rest))
tail_spelt c rest None head cut h = absurd cc
tail_spelt c rest (Some n) head cut h =
    let last = tail_cuts colon rest n cut in
    let parts = last_parts rest n last in
    let back : when_named (cond_named c) (kind_named last.back) last.front ≡ Ok head =
    sym (ap (λ k. when_named (cond_named c) (kind_named k) (take (length rest - n - 1) rest)) parts.0
    ∙ ap (λ m. when_named (cond_named c) (kind_named last.back) m) parts.1) ∙ h in
    subst (λ t. SpellsHead head (codes "when:" ++ (c ++ colon ∷ t))) (sym last.joined)
    (named_spelt c last.front last.back (cond_named c) (kind_named last.back) head refl refl back)

when_spelt : (text rest : List ℕ) (more : Option (List ℕ)) (head : Head) → text ≡ codes "when:" ++ rest → after colon rest ≡ more
    → when_after (cond_named (before colon rest)) more ≡ Ok head → SpellsHead head text
when_spelt text rest None head at cut h = absurd cc
when_spelt text rest (Some more) head at cut h =
    subst (λ t. SpellsHead head t) (sym (at ∙ ap (λ r. codes "when:" ++ r) (cut_joins colon rest more cut)))
    (tail_spelt (before colon rest) more (tail_len colon more) head refl h)

worded_spelt : (text word rest : List ℕ) (head : Head) → text ≡ word ++ colon ∷ rest → worded_head word rest ≡ Ok head
    → SpellsHead head text
unfolding worded_head inline_head when_head
worded_spelt text word rest head at h =
    let is = λ (name : List ℕ) (e : bytes_eq word name ≡ true). at ∙ ap (λ w. w ++ colon ∷ rest) ((bytes_eq-Decides word name).0 e) in
    elim (chosen (bytes_eq word (codes "add")) _ _ _ h) [
      | inl a ↦ inline_spelt Add text rest (after colon rest) head (is (codes "add") a.0) refl a.1
      | inr no_add ↦ elim (chosen (bytes_eq word (codes "set")) _ _ _ no_add.1) [
        | inl a ↦ inline_spelt Store text rest (after colon rest) head (is (codes "set") a.0) refl a.1
        | inr no_set ↦ elim (chosen (bytes_eq word (codes "when")) _ _ _ no_set.1) [
          | inl a ↦ when_spelt text rest (after colon rest) head (is (codes "when") a.0) refl a.1
          | inr none ↦ absurd cc
        ]
      ]
    ]

act_spelt : (text : List ℕ) (rest : Option (List ℕ)) (head : Head) → after colon text ≡ rest
    → act_head (before colon text) rest ≡ Ok head → SpellsHead head text
act_spelt text None head cut h = absurd cc
act_spelt text (Some rest) head cut h = worded_spelt text (before colon text) rest head (cut_joins colon text rest cut) h

or_spelt : (text : List ℕ) (kind : Option KindName) (head : Head) → kind_named text ≡ kind → or_act kind text ≡ Ok head
    → SpellsHead head text
or_spelt text (Some kind) head is h = made_is text (Boxed kind) head h (named_in kind_names text kind is)
or_spelt text None head is h = act_spelt text (after colon text) head refl h

-- what is read as a head spells it
pub head_spelt : (text : List ℕ) (head : Head) → head_of text ≡ Ok head → SpellsHead head text
unfolding head_of
head_spelt text head h = or_spelt text (kind_named text) head refl h

-- ---- what spells a head is read as it

inline_reads : (op : Op) (entry imm : ℕ) (e n : List ℕ) → SpellsEntry entry e → SpellsNum imm n
    → inline_after op (before colon (e ++ colon ∷ n)) (after colon (e ++ colon ∷ n)) ≡ Ok (Inline op entry imm)
inline_reads op entry imm e n is_entry is_num =
    let free = free_plain colon e refl (digits_plain 10 20 entry e is_entry.num) in
    ap (λ b. inline_after op b (after colon (e ++ colon ∷ n))) (before_at colon e n free)
    ∙ (ap (λ a. inline_after op e a) (after_at colon e n free)
    ∙ (ap (λ x. inline_of op x (number 10 20 n)) (entry_reads entry e is_entry)
    ∙ ap (λ y. inline_of op (Some entry) y) (number_reads 10 20 imm n (omega arith) is_num)))

numbers_read : (cond : Cond) (kind : KindName) (entry imm : ℕ) (e n : List ℕ) → SpellsEntry entry e → SpellsNum imm n
    → when_named (Some cond) (Some kind) (e ++ colon ∷ n) ≡ Ok (When cond entry imm kind)
numbers_read cond kind entry imm e n is_entry is_num =
    let free = free_plain colon e refl (digits_plain 10 20 entry e is_entry.num) in
    ap (λ b. when_numbers cond kind b (after colon (e ++ colon ∷ n))) (before_at colon e n free)
    ∙ (ap (λ a. when_numbers cond kind e a) (after_at colon e n free)
    ∙ (ap (λ x. when_of cond kind x (number 10 20 n)) (entry_reads entry e is_entry)
    ∙ ap (λ y. when_of cond kind (Some entry) y) (number_reads 10 20 imm n (omega arith) is_num)))

-- a text whose last colon stands before a text without one
tail_reads : (cond : Option Cond) (middle k : List ℕ) → Free colon k
    → when_tail cond (middle ++ colon ∷ k) (tail_len colon (middle ++ colon ∷ k)) ≡ when_named cond (kind_named k) middle
tail_reads cond middle k free =
    let text = middle ++ colon ∷ k in
    let n = length k in
    let cut : CutsLast colon text n = record { front = middle; back = k; joined = refl; size = refl } in
    let parts = last_parts text n cut in
    ap (when_tail cond text) (tail_at colon middle k free)
    ∙ (ap (λ t. when_named cond (kind_named t) (take (length text - n - 1) text)) parts.0
    ∙ ap (λ t. when_named cond (kind_named k) t) parts.1)

when_reads : (cond : Cond) (kind : KindName) (entry imm : ℕ) (c e n k : List ℕ) → Contains cond_names (cond, c) → SpellsEntry entry e
    → SpellsNum imm n → Contains kind_names (kind, k)
    → when_after (cond_named (before colon (c ++ colon ∷ ((e ++ colon ∷ n) ++ colon ∷ k))))
    (after colon (c ++ colon ∷ ((e ++ colon ∷ n) ++ colon ∷ k))) ≡ Ok (When cond entry imm kind)
when_reads cond kind entry imm c e n k is_cond is_entry is_num is_kind =
    let more = (e ++ colon ∷ n) ++ colon ∷ k in
    let free = free_plain colon c refl (conds_read.plain cond c is_cond) in
    ap (λ b. when_after (cond_named b) (after colon (c ++ colon ∷ more))) (before_at colon c more free)
    ∙ (ap (λ a. when_after (cond_named c) a) (after_at colon c more free)
    ∙ (ap (λ o. when_tail o more (tail_len colon more)) (conds_read.reads cond c is_cond)
    ∙ (tail_reads (Some cond) (e ++ colon ∷ n) k (free_plain colon k refl (kinds_read.plain kind k is_kind))
    ∙ (ap (λ o. when_named (Some cond) o (e ++ colon ∷ n)) (kinds_read.reads kind k is_kind)
    ∙ numbers_read cond kind entry imm e n is_entry is_num))))

op_reads : (op : Op) (entry imm : ℕ) (e n : List ℕ) → SpellsEntry entry e → SpellsNum imm n
    → head_of (op_word op ++ (e ++ colon ∷ n)) ≡ Ok (Inline op entry imm)
unfolding head_of worded_head inline_head
op_reads Add entry imm e n is_entry is_num =
    let rest = e ++ colon ∷ n in
    ap (λ b. act_head b (after colon (codes "add" ++ colon ∷ rest))) (before_at colon (codes "add") rest refl)
    ∙ (ap (λ a. act_head (codes "add") a) (after_at colon (codes "add") rest refl) ∙ inline_reads Add entry imm e n is_entry is_num)
op_reads Store entry imm e n is_entry is_num =
    let rest = e ++ colon ∷ n in
    ap (λ b. act_head b (after colon (codes "set" ++ colon ∷ rest))) (before_at colon (codes "set") rest refl)
    ∙ (ap (λ a. act_head (codes "set") a) (after_at colon (codes "set") rest refl) ∙ inline_reads Store entry imm e n is_entry is_num)

-- what spells a head is read as it
pub head_reads : (head : Head) (text : List ℕ) → SpellsHead head text → head_of text ≡ Ok head
unfolding head_of worded_head when_head
head_reads (Boxed kind) text s = ap (λ k. or_act k text) (kinds_read.reads kind text s)
head_reads (Inline op entry imm) text s = ap head_of s.4 ∙ op_reads op entry imm s.0 s.1 s.2 s.3
head_reads (When cond entry imm kind) text s =
    let c = s.0 in let e = s.1 in let n = s.2 in let k = s.3 in
    let rest = c ++ colon ∷ ((e ++ colon ∷ n) ++ colon ∷ k) in
    let joined : text ≡ codes "when" ++ colon ∷ rest =
    s.8 ∙ ap (λ t. codes "when:" ++ (c ++ colon ∷ t)) (sym (append_assoc e (colon ∷ n) (colon ∷ k))) in
    ap head_of joined
    ∙ (ap (λ b. act_head b (after colon (codes "when" ++ colon ∷ rest))) (before_at colon (codes "when") rest refl)
    ∙ (ap (λ a. act_head (codes "when") a) (after_at colon (codes "when") rest refl)
    ∙ when_reads cond kind entry imm c e n k s.4 s.5 s.6 s.7))

op_calls : (op : Op) (rest : List ℕ) → calls_a_box (op_word op ++ rest) ≡ false
unfolding calls_a_box
op_calls Add rest = ap (λ b. bytes_eq b (codes "when") && is_some (after colon (op_word Add ++ rest))) (before_at colon (codes "add") rest refl)
op_calls Store rest = ap (λ b. bytes_eq b (codes "when") && is_some (after colon (op_word Store ++ rest))) (before_at colon (codes "set") rest refl)

pub head_calls : (head : Head) (text : List ℕ) → SpellsHead head text → calls_a_box text ≡ does_call head
unfolding calls_a_box
head_calls (Boxed kind) text s =
    ap (λ k. is_some k || (bytes_eq (before colon text) (codes "when") && is_some (after colon text))) (kinds_read.reads kind text s)
head_calls (Inline op entry imm) text s = ap calls_a_box s.4 ∙ op_calls op _
head_calls (When cond entry imm kind) text s =
    let rest = s.0 ++ colon ∷ (s.1 ++ colon ∷ (s.2 ++ colon ∷ s.3)) in
    let whole = codes "when" ++ colon ∷ rest in
    ap calls_a_box s.8
    ∙ (ap (λ b. bytes_eq b (codes "when") && is_some (after colon whole)) (before_at colon (codes "when") rest refl)
    ∙ ap (λ a. is_some a) (after_at colon (codes "when") rest refl))

op_each : (p : ℕ → Bool) → Takes p → Each p (codes ":") → (op : Op) → Each p (op_word op)
op_each p takes colons Add = each_append p (codes "add") (codes ":") (each_plain p (codes "add") takes refl) colons
op_each p takes colons Store = each_append p (codes "set") (codes ":") (each_plain p (codes "set") takes refl) colons

-- what plain bytes and colons pass, heads do
pub head_each : (p : ℕ → Bool) → Takes p → Each p (codes ":") → (head : Head) (text : List ℕ) → SpellsHead head text → Each p text
head_each p takes colons (Boxed kind) text s = each_plain p text takes (kinds_read.plain kind text s)
head_each p takes colons (Inline op entry imm) text s =
    let e = s.0 in let n = s.1 in
    subst (λ t. Each p t) (sym s.4)
    (each_append p (op_word op) (e ++ colon ∷ n) (op_each p takes colons op)
    (each_append p e (colon ∷ n) (each_plain p e takes (digits_plain 10 20 entry e s.2.num))
    (each_append p (codes ":") n colons (each_plain p n takes (digits_plain 10 20 imm n s.3)))))
head_each p takes colons (When cond entry imm kind) text s =
    let w = s.0 in let e = s.1 in let n = s.2 in let k = s.3 in
    let then = λ (x y : List ℕ) (fx : Each p x) (fy : Each p y). each_append p x (colon ∷ y) fx (each_append p (codes ":") y colons fy) in
    let last = then n k (each_plain p n takes (digits_plain 10 20 imm n s.6)) (each_plain p k takes (kinds_read.plain kind k s.7)) in
    let more = then e (n ++ colon ∷ k) (each_plain p e takes (digits_plain 10 20 entry e s.5.num)) last in
    let all = then w (e ++ colon ∷ (n ++ colon ∷ k)) (each_plain p w takes (conds_read.plain cond w s.4)) more in
    subst (λ t. Each p t) (sym s.8)
    (then (codes "when") (w ++ colon ∷ (e ++ colon ∷ (n ++ colon ∷ k))) (each_plain p (codes "when") takes refl) all)

-- a head has no sign that stands between items or parts
pub head_free : (c : ℕ) → is_plain c ≡ false → Free c (codes ":") → (head : Head) (text : List ℕ) → SpellsHead head text → Free c text
head_free c sign colons head text s = head_each (other c) (differs c sign) colons head text s
