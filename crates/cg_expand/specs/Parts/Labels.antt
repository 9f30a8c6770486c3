-- Names with their places, which are compared by place.
use Rattle.std.specs.Prelude.{nat_lt, Bool, ◌&&◌, cond, List, [], ◌∷◌}
use Rattle.std.specs.List.{flat_map, list_any}
use Rattle.std.specs.Str.{str_eq_ignore_ascii_case}
use Rattle.cg_desc.specs.declared.place.At.{At}
use Rattle.cg_desc.specs.declared.block.FieldDesc.{FieldDesc}
use Rattle.cg_desc.specs.declared.block.IntrDesc.{IntrDesc}
use Rattle.cg_desc.specs.declared.block.AlertDesc.{AlertDesc}
use Rattle.cg_finding.specs.Finding.{Finding}
use Rattle.cg_finding.specs.Rules as rules
use Rattle.cg_expand.specs.Violations.{Named}
use Rattle.cg_expand.specs.declared.labels.Label.{Label}

-- what a label of the program stands for
abbrev pub named : Label → Named
named l = record { name = l.name.now; at = l.at }

-- a field, an interrupt and an alert have a name and a place
abbrev pub field_label : FieldDesc → Named
field_label f = record { name = f.name; at = f.at }

abbrev pub interrupt_label : IntrDesc → Named
interrupt_label i = record { name = i.name; at = i.at }

abbrev pub alert_label : AlertDesc → Named
alert_label a = record { name = a.name; at = a.at }

-- the other stands earlier in the file and has the same name, without regard to case
abbrev pub is_earlier : Named → Named → Bool
is_earlier l other = nat_lt other.at.byte l.at.byte && str_eq_ignore_ascii_case other.name l.name

-- it stands behind a place
abbrev pub is_behind : At → Named → Bool
is_behind at l = nat_lt at.byte l.at.byte

-- what a label breaks among these
unfoldable pub twice_among : List Named → Named → List Finding
twice_among ls l = cond (list_any (is_earlier l) ls) (rules.name_twice l.at l.name ∷ []) []

-- what these labels break
unfoldable pub labels_twice : List Named → List Finding
labels_twice ls = flat_map (twice_among ls) ls
