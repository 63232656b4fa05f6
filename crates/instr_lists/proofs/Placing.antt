-- Where the list of an event stands.
use Rattle.std.proofs.Common.{◌≡◌, ◌<◌, ◌+◌, ◌*◌, ◌∙◌, ◌&&◌, ◌∷◌, [], ℕ, zero, suc, Bool, List, length, take, refl, sym, ap, arith, Some, None}
use Rattle.std.proofs.Common.{length-append}
use Rattle.std.specs.Prelude.{slice_index_or, flat_map}
use Rattle.std.proofs.lemmas.List.{length-take, get_or_append_left, get_or-append-add}
use Rattle.std.proofs.lemmas.List.Concat.{get_or-flat_map}
use Rattle.flat_model.specs.declared.events.Class.{Class}
use Rattle.flat_model.specs.declared.events.Class.TheVariants.{Illegal}
use Rattle.flat_model.specs.declared.events.Ending.{Ending}
use Rattle.flat_model.specs.declared.events.What.TheVariants as what
use Rattle.flat_model.specs.declared.plugins.Filter.{Filter}
use Rattle.flat_model.specs.declared.limits.TheConstants.{KIND_BLOCK, KIND_INSN, KIND_MEM}
use Rattle.block_finder.specs.declared.blocks.Site.{Site}
use Rattle.block_finder.specs.Block.{Stretch}
use Rattle.event_walk.specs.Matches.{Classes, meet, is_within, has_class, class_bit, lets_through}
use Rattle.instr_lists.specs.declared.sorts.Sort.TheVariants.{Init, Block, Insn, Mem, Sys, SysRet, Exit}
use Rattle.instr_lists.specs.Sorts.{passes, site_sorts, other_sorts, sorts_of, IsInside}
use Rattle.instr_lists.specs.Lists.{IsPlaceOf}

pub five_each : (sites : List Site) → length (flat_map site_sorts sites) ≡ 5 * length sites
five_each [] = refl
five_each (s ∷ sites) = omega (arith, five_each sites, length-append (site_sorts s) (flat_map site_sorts sites))

pub all_long : (sites : List Site) → length (sorts_of sites) ≡ 5 * length sites + 4
all_long sites = omega (arith, five_each sites, length-append (flat_map site_sorts sites) other_sorts)

-- sort j of word k
word_sort : (sites : List Site) (k j : ℕ) (s : Site) → k < length sites → j < 5
    → slice_index_or (sorts_of sites) (5 * k + j) Init ≡ slice_index_or (site_sorts (slice_index_or sites k s)) j Init
word_sort sites k j s below small =
    let long = five_each sites in
    let front : length (flat_map site_sorts (take k sites)) ≡ 5 * k =
    five_each (take k sites) ∙ (let n : length (take k sites) ≡ k = omega (arith, length-take k sites, below) in ap (λ m. 5 * m) n) in
    get_or_append_left (flat_map site_sorts sites) other_sorts Init (5 * k + j) (omega (arith, long, below, small))
    ∙ (ap (λ m. slice_index_or (flat_map site_sorts sites) (m + j) Init) (sym front)
    ∙ get_or-flat_map site_sorts sites k j s Init below small)

other_sort : (sites : List Site) (j : ℕ) → j < 4
    → slice_index_or (sorts_of sites) (5 * length sites + j) Init ≡ slice_index_or other_sorts j Init
other_sort sites j small =
    ap (λ m. slice_index_or (sorts_of sites) (m + j) Init) (sym (five_each sites))
    ∙ get_or-append-add (flat_map site_sorts sites) other_sorts j Init

-- What filters let through, by the sort.

module _ (classes : Classes) (f : Filter) where
  pub block_same : (pc at n : ℕ) → at ≡ pc → passes f (Block at) ≡ lets_through classes f (what.Block pc n)
  unfolding passes lets_through
  block_same pc at n same = ap (λ a. meet f.kinds KIND_BLOCK && is_within f a) same

  pub insn_same : (pc at word : ℕ) (class : Class) → at ≡ pc → classes pc ≡ Some class
      → passes f (Insn at class) ≡ lets_through classes f (what.Insn pc word)
  unfolding passes lets_through
  insn_same pc at word class same those =
      ap (λ a. meet f.kinds KIND_INSN && (is_within f a && meet f.classes (class_bit class))) same
      ∙ ap (λ c. meet f.kinds KIND_INSN && (is_within f pc && has_class f c)) (sym those)

  mem_same : (pc at addr shift : ℕ) (signed : Bool) (rw read written : ℕ) (class : Class) → at ≡ pc → classes pc ≡ Some class
      → passes f (Mem at class rw) ≡ lets_through classes f (what.Mem pc addr shift signed rw read written)
  unfolding passes lets_through
  mem_same pc at addr shift signed rw read written class same those =
      ap (λ a. meet f.kinds KIND_MEM && (is_within f a && (meet f.classes (class_bit class) && meet f.rw rw))) same
      ∙ ap (λ c. meet f.kinds KIND_MEM && (is_within f pc && (has_class f c && meet f.rw rw))) (sym those)

  init_same : passes f Init ≡ lets_through classes f what.Init
  unfolding passes lets_through
  init_same = refl

  sys_same : (number a0 a1 a2 : ℕ) → passes f Sys ≡ lets_through classes f (what.Sys number a0 a1 a2)
  unfolding passes lets_through
  sys_same number a0 a1 a2 = refl

  ret_same : (number result : ℕ) → passes f SysRet ≡ lets_through classes f (what.SysRet number result)
  unfolding passes lets_through
  ret_same number result = refl

  exit_same : (ending : Ending) → passes f Exit ≡ lets_through classes f (what.Exit ending)
  unfolding passes lets_through
  exit_same ending = refl

pub no_site : Site
no_site = record { pc = 0; word = 0; ins = None; class = Illegal }

-- the words of a block

pub at_word : (sites : List Site) (k j p : ℕ) → k < length sites → j < 5 → p ≡ 5 * k + j
    → slice_index_or (sorts_of sites) p Init ≡ slice_index_or (site_sorts (slice_index_or sites k no_site)) j Init
at_word sites k j p below small is =
    ap (λ m. slice_index_or (sorts_of sites) m Init) is ∙ word_sort sites k j no_site below small

pub inside_place : (sites : List Site) (k j p : ℕ) → k < length sites → j < 5 → p ≡ 5 * k + j → p < length (sorts_of sites)
inside_place sites k j p below small is = omega (arith, all_long sites, below, small, is)

pub access_at : (s : Site) (rw : ℕ) → 0 < rw → rw < 4 → slice_index_or (site_sorts s) (1 + rw) Init ≡ Mem s.pc s.class rw
access_at s zero least most = absurd (omega (arith, least))
access_at s (suc zero) least most = refl
access_at s (suc (suc zero)) least most = refl
access_at s (suc (suc (suc zero))) least most = refl
access_at s (suc (suc (suc (suc rw)))) least most = absurd (omega (arith, most))

module _ (block : Stretch) (pc place : ℕ) (in' : IsInside block pc) where
  pub block_place : (n : ℕ) → place ≡ 5 * in'.word → IsPlaceOf block (what.Block pc n) place
  block_place n is = record {
    within = inside_place block.sites in'.word 0 place in'.within (omega arith) (omega (arith, is));
    same = λ classes has f.
        ap (passes f) (at_word block.sites in'.word 0 place in'.within (omega arith) (omega (arith, is)))
        ∙ block_same classes f pc (slice_index_or block.sites in'.word no_site).pc n
        (has.places in'.word no_site in'.within ∙ sym in'.place);
  }

  pub insn_place : (word : ℕ) → place ≡ 5 * in'.word + 1 → IsPlaceOf block (what.Insn pc word) place
  insn_place word is = record {
    within = inside_place block.sites in'.word 1 place in'.within (omega arith) is;
    same = λ classes has f.
        let s = slice_index_or block.sites in'.word no_site in
        ap (passes f) (at_word block.sites in'.word 1 place in'.within (omega arith) is)
        ∙ insn_same classes f pc s.pc word s.class (has.places in'.word no_site in'.within ∙ sym in'.place)
        (ap classes in'.place ∙ has.those in'.word no_site in'.within);
  }

  pub mem_place : (addr shift : ℕ) (signed : Bool) (rw read written : ℕ) → 0 < rw → rw < 4 → place ≡ 5 * in'.word + (1 + rw)
      → IsPlaceOf block (what.Mem pc addr shift signed rw read written) place
  mem_place addr shift signed rw read written least most is = record {
    within = inside_place block.sites in'.word (1 + rw) place in'.within (omega (arith, most)) is;
    same = λ classes has f.
        let s = slice_index_or block.sites in'.word no_site in
        ap (passes f) (at_word block.sites in'.word (1 + rw) place in'.within (omega (arith, most)) is ∙ access_at s rw least most)
        ∙ mem_same classes f pc s.pc addr shift signed rw read written s.class (has.places in'.word no_site in'.within ∙ sym in'.place)
        (ap classes in'.place ∙ has.those in'.word no_site in'.within);
  }

-- what any step can give

module _ (block : Stretch) (n : ℕ) (long : length block.sites ≡ n) where
  pub after_words : (j : ℕ) → j < 4 → slice_index_or (sorts_of block.sites) (5 * n + j) Init ≡ slice_index_or other_sorts j Init
  after_words j small = ap (λ m. slice_index_or (sorts_of block.sites) (5 * m + j) Init) (sym long) ∙ other_sort block.sites j small

  pub init_place : IsPlaceOf block what.Init (5 * n)
  init_place = record {
    within = omega (arith, all_long block.sites, long);
    same = λ classes has f.
        ap (λ m. passes f (slice_index_or (sorts_of block.sites) m Init)) (let e : 5 * n ≡ 5 * n + 0 = omega arith in e)
        ∙ (ap (passes f) (after_words 0 (omega arith)) ∙ init_same classes f);
  }

  pub sys_place : (number a0 a1 a2 : ℕ) → IsPlaceOf block (what.Sys number a0 a1 a2) (5 * n + 1)
  sys_place number a0 a1 a2 = record {
    within = omega (arith, all_long block.sites, long);
    same = λ classes has f. ap (passes f) (after_words 1 (omega arith)) ∙ sys_same classes f number a0 a1 a2;
  }

  pub ret_place : (number result : ℕ) → IsPlaceOf block (what.SysRet number result) (5 * n + 2)
  ret_place number result = record {
    within = omega (arith, all_long block.sites, long);
    same = λ classes has f. ap (passes f) (after_words 2 (omega arith)) ∙ ret_same classes f number result;
  }

  pub exit_place : (ending : Ending) → IsPlaceOf block (what.Exit ending) (5 * n + 3)
  exit_place ending = record {
    within = omega (arith, all_long block.sites, long);
    same = λ classes has f. ap (passes f) (after_words 3 (omega arith)) ∙ exit_same classes f ending;
  }
