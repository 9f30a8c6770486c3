-- What the program takes from a register for its fields.
use Rattle.cg_blkread.specs.Raw as raw
use Rattle.cg_blkread.specs.declared.read_fields.Shared.{Shared}

-- what it stands for
abbrev pub shared_view : Shared → raw.Shared
shared_view s = record { name = s.name.now; sw = s.sw; hw = s.hw; sole = s.sole }
