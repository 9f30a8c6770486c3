-- A top's description but for the places of its parts in the file.
use Rattle.std.specs.Prelude.{map}
use Rattle.cg_desc.specs.declared.top.InstDesc.{InstDesc}
use Rattle.cg_desc.specs.declared.top.SignalDesc.{SignalDesc}
use Rattle.cg_desc.specs.declared.top.SpaceDesc.{SpaceDesc}
use Rattle.cg_desc.specs.declared.top.TopDesc.{TopDesc}
use Rattle.cg_desc.specs.declared.top.XbarUse.{XbarUse}
use Rattle.cg_blkdone.specs.Places.{start}

abbrev pub space_unplaced : SpaceDesc → SpaceDesc
space_unplaced s = record { name = s.name; at = start }

abbrev pub instance_unplaced : InstDesc → InstDesc
instance_unplaced i = record {
  name = i.name;
  kind = i.kind;
  clocks = i.clocks;
  resets = i.resets;
  base = i.base;
  bases = i.bases;
  at = start;
}

abbrev pub use_unplaced : XbarUse → XbarUse
use_unplaced x = record { name = x.name; space = x.space; clocks = x.clocks; at = start }

abbrev pub signal_unplaced : SignalDesc → SignalDesc
signal_unplaced s = record { inst = s.inst; port = s.port; joint = s.joint; pad = s.pad; at = start }

-- the description with all its parts at the file's start
unfoldable pub top_unplaced : TopDesc → TopDesc
top_unplaced t = record {
  file = t.file;
  name = t.name;
  sources = t.sources;
  resets = t.resets;
  spaces = map space_unplaced t.spaces;
  insts = map instance_unplaced t.insts;
  xbars = map use_unplaced t.xbars;
  pads = t.pads;
  signals = map signal_unplaced t.signals;
  at = start;
}
