-- What a hart has before any hold.
use Rattle.std.specs.Prelude.{◌≡◌, ℕ, true, [], None, replicate}
use Rattle.flat_model.specs.declared.journals.Mode.{Mode}
use Rattle.flat_model.specs.Image.{Program}
use Rattle.flat_model.specs.World.{opening_hart}
use Rattle.instr_lists.specs.Delivery.{no_asks}
use Rattle.run_replay.specs.declared.berths.Berth.{Berth}

module _ {W : Type 0} where
  pub record IsFirstBerth (image : Program) (harts : ℕ) (mode : Mode) (h : ℕ) (b : Berth W) : Type 0 where
    pub hart_is : b.hart ≡ opening_hart image mode h harts
    pub no_sets : b.attached ≡ []
    pub no_specs : b.specs ≡ []
    pub no_asks : b.asks.first ≡ no_asks
    pub stores : b.raw.kept ≡ true
    pub no_lists : b.lists ≡ []
