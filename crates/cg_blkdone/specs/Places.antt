-- Descriptions but for the places of their parts in the file.
use Rattle.std.specs.Prelude.{map}
use Rattle.cg_desc.specs.declared.place.At.{At}
use Rattle.cg_desc.specs.declared.block.FieldDesc.{FieldDesc}
use Rattle.cg_desc.specs.declared.block.RegDesc.{RegDesc}
use Rattle.cg_desc.specs.declared.block.MultiDesc.{MultiDesc}
use Rattle.cg_desc.specs.declared.block.WindowDesc.{WindowDesc}
use Rattle.cg_desc.specs.declared.block.Written.{Written}
use Rattle.cg_desc.specs.declared.block.Written.TheVariants as written
use Rattle.cg_desc.specs.declared.block.FaceDesc.{FaceDesc}
use Rattle.cg_desc.specs.declared.block.IntrDesc.{IntrDesc}
use Rattle.cg_desc.specs.declared.block.AlertDesc.{AlertDesc}
use Rattle.cg_desc.specs.declared.block.BlockDesc.{BlockDesc}

-- where a text begins
abbrev pub start : At
start = record { byte = 0; line = 1; column = 1 }

abbrev pub field_unplaced : FieldDesc → FieldDesc
field_unplaced f = record { name = f.name; msb = f.msb; lsb = f.lsb; sw = f.sw; hw = f.hw; resval = f.resval; mubi = f.mubi; at = start }

abbrev pub register_unplaced : RegDesc → RegDesc
register_unplaced r = record {
  name = r.name;
  fields = map field_unplaced r.fields;
  regwen = r.regwen;
  regwen_at = start;
  hwext = r.hwext;
  hwqe = r.hwqe;
  hwre = r.hwre;
  shadowed = r.shadowed;
  at = start;
}

abbrev pub multireg_unplaced : MultiDesc → MultiDesc
multireg_unplaced m = record { reg = register_unplaced m.reg; count = m.count; compact = m.compact; regwen_multi = m.regwen_multi }

abbrev pub window_unplaced : WindowDesc → WindowDesc
window_unplaced w = record { name = w.name; items = w.items; byte_write = w.byte_write; sw = w.sw; at = start }

abbrev pub entry_unplaced : Written → Written
entry_unplaced (written.Reg r) = written.Reg (register_unplaced r)
entry_unplaced (written.Multi m) = written.Multi (multireg_unplaced m)
entry_unplaced (written.Window w) = written.Window (window_unplaced w)
entry_unplaced (written.SkipTo to at) = written.SkipTo to start
entry_unplaced (written.Reserved words at) = written.Reserved words start

abbrev pub face_unplaced : FaceDesc → FaceDesc
face_unplaced f = record { name = f.name; entries = map entry_unplaced f.entries; at = start }

abbrev pub interrupt_unplaced : IntrDesc → IntrDesc
interrupt_unplaced i = record { name = i.name; width = i.width; status = i.status; at = start }

abbrev pub alert_unplaced : AlertDesc → AlertDesc
alert_unplaced a = record { name = a.name; at = start }

-- the description with all its parts at the file's start
unfoldable pub block_unplaced : BlockDesc → BlockDesc
block_unplaced b = record {
  file = b.file;
  name = b.name;
  clocking = b.clocking;
  faces = map face_unplaced b.faces;
  hosts = b.hosts;
  intrs = map interrupt_unplaced b.intrs;
  intrs_at = start;
  alerts = map alert_unplaced b.alerts;
  alerts_at = start;
  auto_intr = b.auto_intr;
  auto_alert = b.auto_alert;
  ios = b.ios;
  at = start;
}
