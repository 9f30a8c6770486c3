-- What a clock does to a shadowed register, which takes its values by two equal writes (OpenTitan Register Tool, shadowed registers).
use Rattle.std.specs.Prelude.{Bool, true, false, not, ◌&&◌}
use Rattle.cg_desc.specs.declared.block.RegDesc.{RegDesc}

-- A register that is shadowed stores its fields: an external one has nothing to stage for.
abbrev pub is_shadowed : RegDesc → Bool
is_shadowed r = r.shadowed && not r.hwext

-- Such a register has one phase, which is 1 from a first write on until a second one or a read. Below, `we` is 1 in a write that
-- takes effect, `re` in an accepted read, never both, and `same` where every field's written value equals its staged one.

-- a first write stages the written values
abbrev pub stages : Bool → Bool → Bool
stages phase we = we && not phase

-- a second one that is equal commits: the fields take the values
abbrev pub commits : Bool → Bool → Bool → Bool
commits phase we same = we && (phase && same)

-- a second one that differs in some field fails: no field changes
abbrev pub fails : Bool → Bool → Bool → Bool
fails phase we same = we && (phase && not same)

-- A first write sets the phase, a second one clears it, whether it commits or fails, and a read clears it; otherwise it stays.
abbrev pub next_phase : Bool → Bool → Bool → Bool
next_phase false true re = true
next_phase true true re = false
next_phase phase false true = false
next_phase phase false false = phase
