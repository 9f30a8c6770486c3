-- A field, and the name, of one copy of a register.
use Rattle.std.specs.Prelude.{ℕ, ◌+◌, nat_lt, cond, List}
use Rattle.cg_desc.specs.Items.{numbered, word_count}
use Rattle.cg_desc.specs.declared.block.FieldDesc.{FieldDesc}
use Rattle.cg_desc.specs.declared.block.MultiDesc.{MultiDesc}

-- a field of copy `number`, so many bits higher
abbrev pub moved : (number shift : ℕ) → FieldDesc → FieldDesc
moved number shift f = record {
  name = numbered f.name number;
  msb = f.msb + shift;
  lsb = f.lsb + shift;
  sw = f.sw;
  hw = f.hw;
  resval = f.resval;
  mubi = f.mubi;
  at = f.at;
}

-- the name of word `number`, which has the number where there is more than one word
abbrev pub word_name : MultiDesc → ℕ → List ℕ
word_name m number = cond (nat_lt 1 (word_count m)) (numbered m.reg.name number) m.reg.name
