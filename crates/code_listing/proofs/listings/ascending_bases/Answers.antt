use Rattle.std.proofs.Common.{ℕ, ◌≤◌, sym, subst, IsPermutation, List}
use Rattle.std.proofs.lemmas.List.Sorted.{IsNonDecreasingBy-from_sort, All-permutation}
use Rattle.code_listing.specs.Listings.{code_bases}
use Rattle.code_listing.proofs.Bases.{bases_low}
use Rattle.code_listing.proofs.listings.ascending_bases.Goals as goal

pub returns : goal.returns
returns c =
    let sorted = c.sort_unstable.new.self.items in
    let all : IsPermutation (code_bases c.args.regions.now) sorted =
    subst (λ (bs : List ℕ). IsPermutation bs sorted) c.in_ok-bases.ensures.bases c.sort_unstable.ensures.permutation in
    record {
      order = record {
        ascending = IsNonDecreasingBy-from_sort (λ (x : ℕ). x) sorted c.sort_unstable.ensures.sorted;
        all = all;
      };
      low = All-permutation (λ (base : ℕ). base ≤ 0x3fffc00000) (code_bases c.args.regions.now) sorted all (bases_low c.args.regions.now c.requires.low);
    }
