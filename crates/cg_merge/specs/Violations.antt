-- What the files of a top break of the rules on one another: address spaces, names, nodes and bases (OpenTitan Top Generation Tool).
use Rattle.std.specs.Prelude.{◌≡◌, ◌≢◌, ◌⊎◌, ℕ, ◌<◌, true, false, [], length, slice_get, Some}
use Rattle.cg_svspec.specs.Links.{spelled}
use Rattle.cg_svspec.specs.Names.{Among}
use Rattle.cg_desc.specs.Bases.{HasBase}
use Rattle.cg_desc.specs.Crossbar.{NodeIs}
use Rattle.cg_desc.specs.Ends.{CrossbarIs, InstanceIs, IsOf, Joins, NamesFace, NamesHost, NodeOf}
use Rattle.cg_desc.specs.Merged.{IsListed}
use Rattle.cg_desc.specs.Top.{Design}
use Rattle.cg_desc.specs.declared.block.LaidBlock.{LaidBlock}
use Rattle.cg_desc.specs.declared.crossbar.NodeDesc.{NodeDesc}
use Rattle.cg_desc.specs.declared.crossbar.XbarDesc.{XbarDesc}
use Rattle.cg_desc.specs.declared.fault.Fault.{Fault}
use Rattle.cg_desc.specs.declared.top.FaceBase.{FaceBase}
use Rattle.cg_desc.specs.declared.top.InstDesc.{InstDesc}
use Rattle.cg_desc.specs.declared.top.SpaceBase.{SpaceBase}
use Rattle.cg_desc.specs.declared.top.SpaceDesc.{SpaceDesc}
use Rattle.cg_desc.specs.declared.top.XbarUse.{XbarUse}
use Rattle.cg_finding.specs.Finding.{Finding, in_file}
use Rattle.cg_finding.specs.Rules as rules

-- ---- the top's file

-- address space i is this one
abbrev pub SpaceIs : Design → ℕ → SpaceDesc → Type 0
SpaceIs d i space = slice_get d.top.spaces i ≡ Some space

-- crossbar x is listed so
abbrev pub UseIs : Design → ℕ → XbarUse → Type 0
UseIs d x listed = slice_get d.top.xbars x ≡ Some listed

-- what address space i breaks: an earlier one has its name
pub data BreaksSpace (d : Design) (i : ℕ) (space : SpaceDesc) : Finding → Type 0 where
  twice : (j : ℕ) (earlier : SpaceDesc) → j < i → SpaceIs d j earlier → earlier.name ≡ space.name → BreaksSpace d i space (rules.bad_space space.at space.name)

-- what the listing of crossbar x breaks: its space is not listed, or an instance or an earlier crossbar has its name
pub data BreaksUse (d : Design) (x : ℕ) (listed : XbarUse) : Finding → Type 0 where
  unlisted : ¬ IsListed d.top listed.space → BreaksUse d x listed (rules.bad_space listed.at listed.space)
  instance_has_name : (inst : InstDesc) → Among inst d.top.insts → inst.name ≡ listed.name → BreaksUse d x listed (rules.instance_twice listed.at listed.name)
  twice : (y : ℕ) (earlier : XbarUse) → y < x → UseIs d y earlier → earlier.name ≡ listed.name → BreaksUse d x listed (rules.instance_twice listed.at listed.name)

-- What instance i breaks: an earlier one has its name, a base that is written for it or for one of its interfaces is for a space that is
-- not listed, or a device interface has no base in its space.
pub data BreaksInstance (d : Design) (i : ℕ) (inst : InstDesc) : Finding → Type 0 where
  twice : (j : ℕ) (earlier : InstDesc) → j < i → InstanceIs d j earlier → earlier.name ≡ inst.name → BreaksInstance d i inst (rules.instance_twice inst.at inst.name)
  unlisted : (b : SpaceBase) → Among b inst.base → ¬ IsListed d.top b.space → BreaksInstance d i inst (rules.bad_space inst.at b.space)
  interface_unlisted : (b : FaceBase) → Among b inst.bases → ¬ IsListed d.top b.space → BreaksInstance d i inst (rules.bad_space inst.at b.space)
  no_base : (f : ℕ) (block : LaidBlock) → IsOf d i inst block → f < length block.faces → ((base : ℕ) → HasBase d i f base → ⊥)
      → BreaksInstance d i inst (rules.base_missing inst.at inst.name)

-- what the top's file breaks
pub data BreaksTop (d : Design) : Finding → Type 0 where
  space : {f : Finding} (i : ℕ) (s : SpaceDesc) → SpaceIs d i s → BreaksSpace d i s f → BreaksTop d f
  listing : {f : Finding} (x : ℕ) (listed : XbarUse) → UseIs d x listed → BreaksUse d x listed f → BreaksTop d f
  instance : {f : Finding} (i : ℕ) (inst : InstDesc) → InstanceIs d i inst → BreaksInstance d i inst f → BreaksTop d f

-- ---- a crossbar's file

-- node k of crossbar y stands before node n of crossbar x: in an earlier crossbar, or earlier in its own
abbrev pub StandsBefore : ℕ → ℕ → ℕ → ℕ → Type 0
StandsBefore y k x n = (y < x) ⊎ ((y ≡ x) × (k < n))

-- What node n of crossbar x breaks. One that stands for no crossbar is spelled as such a node of an earlier crossbar, or names the
-- interface that an earlier node names; a device that stands for no crossbar names no interface, and has no range; one that stands for a
-- crossbar has no partner; or a device that does names a crossbar of another address space.
pub data BreaksNode (d : Design) (x n : ℕ) (node : NodeDesc) : Finding → Type 0 where
  spelled_twice : (y k : ℕ) (earlier : NodeDesc) → y < x → NodeOf d y k earlier → earlier.xbar ≡ false → node.xbar ≡ false → spelled earlier.name ≡ spelled node.name
      → BreaksNode d x n node (rules.node_twice_in_top node.at node.name)
  interface_twice : (y k i f : ℕ) (earlier : NodeDesc) → StandsBefore y k x n → NodeOf d y k earlier → NamesFace d earlier i f → NamesFace d node i f
      → BreaksNode d x n node (rules.node_twice_in_top node.at node.name)
  host_interface_twice : (y k i f : ℕ) (earlier : NodeDesc) → StandsBefore y k x n → NodeOf d y k earlier → NamesHost d earlier i f → NamesHost d node i f
      → BreaksNode d x n node (rules.node_twice_in_top node.at node.name)
  names_nothing : node.host ≡ false → node.xbar ≡ false → ((i f : ℕ) → NamesFace d node i f → ⊥) → node.ranges ≡ [] → BreaksNode d x n node (rules.unknown_node_in_top node.at node.name)
  without_partner : node.xbar ≡ true → ((y : ℕ) → Joins d x node y → ⊥) → BreaksNode d x n node (rules.unknown_node_in_top node.at node.name)
  in_another_space : (outer inner : XbarUse) → node.host ≡ false → node.xbar ≡ true → UseIs d x outer → Among inner d.top.xbars → inner.name ≡ node.name → outer.space ≢ inner.space
      → BreaksNode d x n node (rules.bad_space node.at node.name)

-- what the file of crossbar x breaks
pub record BreaksCrossbar (d : Design) (x : ℕ) (xbar : XbarDesc) (f : Finding) : Type 0 where
  pub number : ℕ
  pub node : NodeDesc
  pub is : NodeIs xbar number node
  pub breaks : BreaksNode d x number node f

-- ---- all of them

-- what the files of a top break of these rules, each in its own file
pub data Violates (d : Design) : Fault → Type 0 where
  in_top : (f : Finding) → BreaksTop d f → Violates d (in_file d.top.file f)
  in_crossbar : (x : ℕ) (xbar : XbarDesc) (f : Finding) → CrossbarIs d x xbar → BreaksCrossbar d x xbar f → Violates d (in_file xbar.file f)
