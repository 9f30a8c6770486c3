-- What the program's definitions stand for.
use Rattle.cg_hdrspec.specs.BlockHeader as header
use Rattle.cg_blkhdr.specs.declared.definition.Definition.{Definition}

-- the definition for which one of the program stands
abbrev pub definition_of : Definition → header.Definition
definition_of d = record { name = d.name; hexadecimal = d.hexadecimal; value = d.value }
