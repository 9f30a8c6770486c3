-- The parts of a top's completed description, as the program makes them.
use Rattle.serde_json.specs.Data.{Data}
use Rattle.cg_hjson.specs.declared.tree.Tree.{Tree}
use Rattle.cg_topread.specs.Described.{base_in}
use Rattle.cg_blkdone.specs.Full.{number_of}
use Rattle.cg_done.specs.FullTop.{as_it_stands, full_clocks, full_instance, full_pinmux, full_pinout, full_signal, full_use}
use Rattle.cg_done.specs.declared.lists.Part.{Part}
use Rattle.cg_done.specs.declared.lists.Part.TheVariants as part
use Rattle.cg_done.specs.declared.sections.Section.{Section}
use Rattle.cg_done.specs.declared.sections.Section.TheVariants as section

-- a base address as a number
abbrev pub plain_base : Tree → Data
plain_base t = number_of (base_in t)

-- a part of a list, by what it is
abbrev pub full_by : Part → Tree → Data
full_by part.Instance = full_instance
full_by part.Crossbar = full_use
full_by part.Signal = full_signal
full_by part.Named = as_it_stands

-- a section of a top
abbrev pub section_by : Section → Tree → Data
section_by section.Clocks = full_clocks
section_by section.Pinout = full_pinout
section_by section.Pinmux = full_pinmux
