-- How many rows and fields there are, counted from what is written, as far as one past the limits.
use Rattle.std.specs.Prelude.{ℕ, ◌*◌, min, Bool, ◌||◌, nat_lt, List, length, sum_by}
use Rattle.cg_desc.specs.declared.block.Written.{Written}
use Rattle.cg_desc.specs.declared.block.Written.TheVariants as written
use Rattle.cg_desc.specs.declared.block.FaceDesc.{FaceDesc}
use Rattle.cg_desc.specs.declared.block.FaceItems.{FaceItems}
use Rattle.cg_desc.specs.Items.{word_count}
use Rattle.cg_expand.specs.Violations.{field_count, row_count}
use Rattle.cg_expand.specs.declared.sizes.Size.{Size}

-- the registers and windows that an entry stands for
abbrev pub entry_rows : Written → ℕ
entry_rows (written.Reg r) = 1
entry_rows (written.Multi m) = word_count m
entry_rows (written.Window w) = 1
entry_rows (written.SkipTo to at) = 0
entry_rows (written.Reserved words at) = 0

-- and their fields
abbrev pub entry_fields : Written → ℕ
entry_fields (written.Reg r) = length r.fields
entry_fields (written.Multi m) = m.count * length m.reg.fields
entry_fields (written.Window w) = 0
entry_fields (written.SkipTo to at) = 0
entry_fields (written.Reserved words at) = 0

-- both for an interface's entries
abbrev pub face_rows : FaceDesc → ℕ
face_rows f = sum_by entry_rows f.entries

abbrev pub face_fields : FaceDesc → ℕ
face_fields f = sum_by entry_fields f.entries

-- both as far as one past the limits
abbrev pub capped : (rows fields : ℕ) → Size
capped rows fields = record { rows = min rows 2049; fields = min fields 4097 }

-- whether there are too many
abbrev pub is_too_large : List FaceItems → Bool
is_too_large faces = nat_lt 2048 (row_count faces) || nat_lt 4096 (field_count faces)
