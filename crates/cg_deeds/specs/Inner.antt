-- What the doing of deeds says, from which the clauses of a whole run are made.
use Rattle.std.specs.Prelude.{◌≡◌, ◌⊎◌, List, [], ◌∷◌, Result, Ok, Err}
use Rattle.cg_deeds.specs.declared.deed.Deed.{Deed}
use Rattle.cg_deeds.specs.declared.stop.Stop.{Stop}
use Rattle.cg_deeds.specs.declared.stop.Stop.TheVariants as stop
use Rattle.cg_deeds.specs.Outside.{Outlets}
use Rattle.cg_deeds.specs.Deeds.{Contents, contents, after_deed, after_deeds, Begun, FaultRose}

-- how a deed ends: it is done; it was begun and its object failed, or found no memory
abbrev pub DeedEnds : Result (Unit {0}) Stop → Deed → Outlets → Outlets → Type 0
DeedEnds (Ok u) deed before after = contents after ≡ after_deed deed (contents before)
DeedEnds (Err stop.Failed) deed before after = Begun deed (contents before) (contents after) × FaultRose deed before after
DeedEnds (Err stop.Memory) deed before after = Begun deed (contents before) (contents after)

-- it stopped at this one of the deeds
abbrev pub Stopped : Deed → List Deed → Contents → Contents → Type 0
Stopped deed [] before after = ⊥
Stopped deed (d ∷ ds) before after = ((deed ≡ d) × Begun d before after) ⊎ Stopped deed ds (after_deed d before) after

-- how deeds end in their order
abbrev pub DeedsEnd : Result (Unit {0}) Stop → List Deed → Outlets → Outlets → Type 0
DeedsEnd (Ok u) deeds before after = contents after ≡ after_deeds deeds (contents before)
DeedsEnd (Err stop.Failed) deeds before after = (deed : Deed) × Stopped deed deeds (contents before) (contents after) × FaultRose deed before after
DeedsEnd (Err stop.Memory) deeds before after = (deed : Deed) × Stopped deed deeds (contents before) (contents after)
