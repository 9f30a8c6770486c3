-- What all that is written of a top means, from its texts alone.
use Rattle.std.specs.Prelude.{◌≡◌, ◌≢◌, ℕ, ◌+◌, ◌^◌, ◌<◌, Bool, true, List, [], ◌∷◌, ◌++◌, flat_map, length}
use Rattle.cg_busspec.specs.CrossbarMeaning.{CrossbarMeans}
use Rattle.cg_busspec.specs.Ranges.{address_of}
use Rattle.cg_desc.specs.AddressMap.{IsPlaceFor, ReachesFace}
use Rattle.cg_desc.specs.Merged.{EndAt, FaceAt}
use Rattle.cg_desc.specs.Target.{Target, error as no_target, IsTarget}
use Rattle.cg_desc.specs.declared.address.Place.TheVariants.{Error}
use Rattle.cg_desc.specs.declared.block.LaidBlock.{LaidBlock}
use Rattle.cg_desc.specs.declared.block.LaidFace.{LaidFace}
use Rattle.cg_desc.specs.declared.crossbar.XbarDesc.{XbarDesc}
use Rattle.cg_desc.specs.declared.top.NodeEnd.TheVariants.{Face}
use Rattle.cg_hdrspec.specs.Meaning.{HeaderMeans}
use Rattle.cg_hjson.specs.declared.tree.Tree.{Tree}
use Rattle.cg_regspec.specs.Meaning.{RegisterMeans}
use Rattle.cg_regspec.specs.RegisterModule.{module_of_face, register_module_name}
use Rattle.cg_space.specs.Rows.{IsMapHost}
use Rattle.cg_svspec.specs.Bits.{Bits, ones}
use Rattle.cg_svspec.specs.Names.{Among}
use Rattle.cg_svspec.specs.Stands.{Stands}
use Rattle.cg_svspec.specs.Tree.{Module}
use Rattle.cg_svspec.specs.Value.{Values, Valuation}
use Rattle.cg_svspec.specs.Walk.{End}
use Rattle.cg_svspec.specs.WellFormed.{HasValuation, WellFormed}
use Rattle.cg_tophdr.specs.Meaning.{TopHeaderMeans}
use Rattle.cg_topspec.specs.NetLaws.{ConnectionsAre, VectorsAre}
use Rattle.cg_topspec.specs.Select.{AnswersWith, InterfaceSteps, Selects, is_valid}
use Rattle.cg_topspec.specs.Selection.{HasStates, HaveWidths, IsSelection}
use Rattle.cg_topspec.specs.TopModule.{top_module}
use Rattle.cg_topspec.specs.Ways.{Comes, target_place}
use Rattle.cg_block.specs.Outputs as block
use Rattle.cg_crossbar.specs.Outputs as crossbar
use Rattle.cg_outputs.specs.declared.out_file.OutFile.{OutFile}
use Rattle.cg_chip.specs.Outputs.{IsBlock, IsCrossbar, top_header, top_text}
use Rattle.cg_chip.specs.declared.chip.Chip.{Chip}
use Rattle.cg_chip.specs.declared.chip.XbarRanges.{XbarRanges}

-- ---- the modules

-- the top's module
abbrev pub first_module : Chip → Module
first_module c = top_module c.source.merged c.irq c.ties c.pins

-- A module that stands behind the top's, with the file that is written of it: that of a crossbar, or the register module of an interface of
-- a block.
pub data IsBehind (c : Chip) : OutFile → Module → Type 0 where
  of_crossbar : (x : ℕ) (xbar : XbarDesc) (ranges : XbarRanges) → IsCrossbar c x xbar ranges
      → IsBehind c (crossbar.crossbar_output xbar ranges.ranges) (crossbar.module_of_crossbar xbar ranges.ranges)
  of_interface : (k : ℕ) (laid : LaidBlock) (tree : Tree) (face : LaidFace) → IsBlock c k laid tree → Among face laid.faces
      → IsBehind c (block.register_output laid face) (module_of_face laid face)

-- just these modules, in any order
pub record AreBehind (c : Chip) (ms : List Module) : Type 0 where
  pub only : (m : Module) → Among m ms → (o : OutFile) × IsBehind c o m
  pub all : (o : OutFile) (m : Module) → IsBehind c o m → Among m ms

-- The written texts stand for these modules, each for its own, and all are well formed. A crossbar's is what the crossbar says, and an
-- interface's acts as the interface's register block.
pub record TextsStand (c : Chip) : Type 0 where
  pub top : Stands (top_text c).bytes (first_module c ∷ [])
  pub top_fits : WellFormed (first_module c)
  pub behind : (o : OutFile) (m : Module) → IsBehind c o m → Stands o.bytes (m ∷ []) × WellFormed m
  pub crossbars : (x : ℕ) (xbar : XbarDesc) (ranges : XbarRanges) → IsCrossbar c x xbar ranges
      → CrossbarMeans (crossbar.module_of_crossbar xbar ranges.ranges) xbar ranges.ranges
  pub interfaces : (k : ℕ) (laid : LaidBlock) (tree : Tree) (face : LaidFace) → IsBlock c k laid tree → Among face laid.faces
      → RegisterMeans (register_module_name laid.desc.name face.name) (module_of_face laid face) face
  -- there is a list of the modules behind the top's
  pub listed : (ms : List Module) × AreBehind c ms

-- ---- accesses

-- Every request of every host that stands for no crossbar comes in these modules to what the address map says, in whichever order they are
-- behind the top's.
abbrev pub RequestsReach : Chip → Type 0
RequestsReach c =
    (ms : List Module) → AreBehind c ms → (x h : ℕ) (host : IsMapHost c.source.merged x h) (request : Bits) → length request ≡ 70
    → Comes c.source.merged c.irq c.ties c.pins ms x h host.host.name request

-- In a clock with one request of a host every device interface steps as its register block: the one at which the request ends with the
-- request, at the place that the address map gives, every other one without an access; and where nothing is at the address, a valid
-- request is answered by an error with data all ones.
pub record ClockMeans (c : Chip) (x h : ℕ) (request : Bits) (end : End) (inputs states v next : ℕ → ℕ → Values) : Type 0 where
  pub steps : (i f z d : ℕ) (interface : LaidFace) → EndAt c.source.merged z d (Face i f) → FaceAt c.source.merged i f interface
      → InterfaceSteps c.source.merged c.irq c.ties c.pins x h request end inputs states v next i f z d interface
  pub errors : is_valid request ≡ true → IsPlaceFor c.source.merged x h (address_of request) Error → (e : Bool) (d : Bits) → AnswersWith end v e d
      → (e ≡ true) × (d ≡ ones 32)

abbrev pub ClocksMean : Chip → Type 0
ClocksMean c =
    (ms : List Module) → AreBehind c ms → (x h : ℕ) (host : IsMapHost c.source.merged x h) (request : Bits) (end : End) (inputs states v next : ℕ → ℕ → Values)
    → length request ≡ 70 → Selects (first_module c) ms host.host.name request end inputs states v next → ClockMeans c x h request end inputs states v next

-- Clocks as these laws take them exist: each request of each host can be made in a clock from all states, whatever hardware brings, and
-- there are states.
pub record ClocksExist (c : Chip) (ms : List Module) : Type 0 where
  pub states : HasStates (first_module c) ms
  pub clocks : (x h : ℕ) (host : IsMapHost c.source.merged x h) (request : Bits) → length request ≡ 70 → (brought states : ℕ → ℕ → Values)
      → HaveWidths (first_module c) ms brought states → IsSelection (first_module c) ms host.host.name request brought states

-- ---- nets

-- in every valuation of the top's module the vectors have their bits in the order of their numbers, and ports have the nets of their sources
pub record NetsMean (c : Chip) : Type 0 where
  pub vectors : (inputs given v next : Values) → Valuation (first_module c) inputs given v next → VectorsAre c.source.merged c.irq c.pins v
  pub connections : ConnectionsAre c.source.merged c.irq c.ties c.pins
  -- and there is one for all inputs, and all values of the nets that instances drive
  pub valued : HasValuation (first_module c)

-- ---- headers

-- The header's constants are the top's, each block's header's constants are the block's, and for a host that reaches an interface its base
-- and the offset of a register or of a window's word make the address of just that.
pub record HeadersAgree (c : Chip) : Type 0 where
  pub top : TopHeaderMeans c.source.merged c.irq c.pins (top_header c).bytes
  pub blocks : (k : ℕ) (laid : LaidBlock) (tree : Tree) → IsBlock c k laid tree → HeaderMeans laid (block.header_output laid).bytes
  pub meet : (x h i f base offset : ℕ) (face : LaidFace) (target : Target) → IsMapHost c.source.merged x h → ReachesFace c.source.merged x h i f base face
      → IsTarget face offset target → target ≢ no_target → (base + offset < 2 ^ 32) × IsPlaceFor c.source.merged x h (base + offset) (target_place i f target)

-- ---- all of it

-- What is written of a top: texts that stand for modules, in which every access of every host reaches what the flat address map says and
-- changes fields by their kinds, interrupts, alerts, clocks, resets and pins are joined as their numbers and sources say, and every
-- constant of a header agrees with the modules.
pub record BuildMeans (c : Chip) : Type 0 where
  pub texts : TextsStand c
  pub requests : RequestsReach c
  pub clocks : ClocksMean c
  pub clocks_exist : (ms : List Module) → AreBehind c ms → ClocksExist c ms
  pub nets : NetsMean c
  pub headers : HeadersAgree c
