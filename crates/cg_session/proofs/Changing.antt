-- Changes one after the other.
use Rattle.std.proofs.Common.{◌≡◌, inl, inr, List, [], ◌∷◌, ◌++◌, Option, refl}
use Rattle.cg_base.specs.Outside.{Files}
use Rattle.cg_deeds.specs.declared.deed.Deed.{Deed}
use Rattle.cg_session.specs.Turns.{after_change, after_changes, StoppedIn}

pub changes_behind : (f : Option Files) (cs ds : List Deed) → after_changes (cs ++ ds) f ≡ after_changes ds (after_changes cs f)
changes_behind f [] ds = refl
changes_behind f (c ∷ cs) ds = changes_behind (after_change c f) cs ds

pub stopped_left : (f x : Option Files) (cs ds : List Deed) → StoppedIn cs f x → StoppedIn (cs ++ ds) f x
stopped_left f x [] ds h = absurd h
stopped_left f x (c ∷ cs) ds (inl h) = inl h
stopped_left f x (c ∷ cs) ds (inr h) = inr (stopped_left (after_change c f) x cs ds h)

pub stopped_right : (f x : Option Files) (cs ds : List Deed) → StoppedIn ds (after_changes cs f) x → StoppedIn (cs ++ ds) f x
stopped_right f x [] ds h = h
stopped_right f x (c ∷ cs) ds h = inr (stopped_right (after_change c f) x cs ds h)
