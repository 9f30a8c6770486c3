-- What deeds make of the outside, and where a run may stop among them.
use Rattle.std.specs.Prelude.{◌≡◌, ℕ, List, [], ◌∷◌, ◌++◌, Option}
use Rattle.cg_base.specs.Outside.{Files, Rose, OnlyAt, written, removed, put, TookPrefix}
use Rattle.cg_deeds.specs.declared.deed.Stream.TheVariants.{Out, Err}
use Rattle.cg_deeds.specs.declared.deed.Deed.{Deed}
use Rattle.cg_deeds.specs.declared.deed.Deed.TheVariants.{Write, Remove, Say}
use Rattle.cg_deeds.specs.Outside.{Outlets}

-- the store's files and what each stream took
pub record Contents : Type 0 where
  pub files : Option Files
  pub out : Option (List ℕ)
  pub err : Option (List ℕ)

abbrev pub contents : Outlets → Contents
contents o = record { files = o.files; out = o.out; err = o.err }

-- a deed that is done
abbrev pub after_deed : Deed → Contents → Contents
after_deed (Write name bytes) c = record { files = written c.files name bytes; out = c.out; err = c.err }
after_deed (Remove name) c = record { files = removed c.files name; out = c.out; err = c.err }
after_deed (Say Out line) c = record { files = c.files; out = put c.out line; err = c.err }
after_deed (Say Err line) c = record { files = c.files; out = c.out; err = put c.err line }

-- deeds that are done in their order
abbrev pub after_deeds : List Deed → Contents → Contents
after_deeds [] c = c
after_deeds (d ∷ ds) c = after_deeds ds (after_deed d c)

-- A deed that was begun and is not done: of the files none but its own changed, and of a line a prefix was taken.
abbrev pub Begun : Deed → Contents → Contents → Type 0
Begun (Write name bytes) c e = OnlyAt name c.files e.files × (e.out ≡ c.out) × (e.err ≡ c.err)
Begun (Remove name) c e = OnlyAt name c.files e.files × (e.out ≡ c.out) × (e.err ≡ c.err)
Begun (Say Out line) c e = (e.files ≡ c.files) × TookPrefix c.out e.out line × (e.err ≡ c.err)
Begun (Say Err line) c e = (e.files ≡ c.files) × (e.out ≡ c.out) × TookPrefix c.err e.err line

-- the count of the object that the deed is for rose
abbrev pub FaultRose : Deed → Outlets → Outlets → Type 0
FaultRose (Write name bytes) before after = Rose before.changes after.changes
FaultRose (Remove name) before after = Rose before.changes after.changes
FaultRose (Say Out line) before after = Rose before.out_faults after.out_faults
FaultRose (Say Err line) before after = Rose before.err_faults after.err_faults

-- Of these deeds all in front of this one are done, it was begun, and none behind it was.
pub record StoppedAt (deed : Deed) (deeds : List Deed) (before after : Contents) : Type 0 where
  pub front : List Deed
  pub rest : List Deed
  pub split : deeds ≡ front ++ (deed ∷ rest)
  pub begun : Begun deed (after_deeds front before) after
