-- The lists of names of a top's texts in each of which no name may stand twice, but for its header's.
use Rattle.std.specs.Prelude.{ℕ, List, [], ◌∷◌, ◌++◌, codes, map, flat_map, Option, Some, None}
use Rattle.cg_clkrst.specs.declared.tie.Tie.{Tie}
use Rattle.cg_desc.specs.declared.block.LaidBlock.{LaidBlock}
use Rattle.cg_desc.specs.declared.top.MergedTop.{MergedTop}
use Rattle.cg_irq.specs.declared.bits.IrqMap.{IrqMap}
use Rattle.cg_pinmux.specs.declared.map.PinMap.{PinMap}
use Rattle.cg_regspec.specs.RegisterModule.{register_module_name}
use Rattle.cg_svspec.specs.Names.{module_names, first_repeat}
use Rattle.cg_svspec.specs.Value.{flop_name}
use Rattle.cg_svspec.specs.WellFormed.{connection_names, split_name, join_name, fifo_name}
use Rattle.cg_topspec.specs.Top.{instance_numbers}
use Rattle.cg_topspec.specs.TopModule.{top_module_name, instance_connections, top_module}

-- the modules of the crossbars, and the names of the types, each once
abbrev pub crossbar_module_names : MergedTop → List (List ℕ)
crossbar_module_names m = map (λ x. codes "xbar_" ++ x.name) m.xbars

abbrev pub type_names : MergedTop → List (List ℕ)
type_names m = map (λ b. b.desc.name) m.blocks

-- the register modules of a type
abbrev pub register_names : LaidBlock → List (List ℕ)
register_names b = map (λ face. register_module_name b.desc.name face.name) b.faces

-- all modules that the texts know: parts, the top, crossbars, types, register modules
unfoldable pub known_modules : MergedTop → List (List ℕ)
known_modules m =
    (flop_name ∷ split_name ∷ join_name ∷ fifo_name ∷ top_module_name m ∷ [])
    ++ (crossbar_module_names m ++ (type_names m ++ flat_map register_names m.blocks))

-- the files of a type: its header, its completed description, its register modules
abbrev pub type_files : LaidBlock → List (List ℕ)
type_files b = (b.desc.name ++ codes "_regs.h") ∷ (b.desc.name ++ codes ".gen.hjson") ∷ map (λ name. name ++ codes ".sv") (register_names b)

-- all files of a top
unfoldable pub file_names : MergedTop → List (List ℕ)
file_names m =
    (top_module_name m ++ codes ".sv") ∷ (top_module_name m ++ codes ".h") ∷ (top_module_name m ++ codes ".gen.hjson")
    ∷ (map (λ name. name ++ codes ".sv") (crossbar_module_names m) ++ (flat_map type_files m.blocks ++ (codes "manifest.txt" ∷ [])))

-- the ports of each instance that are connected
abbrev pub port_lists : MergedTop → List Tie → List (List (List ℕ))
port_lists m ties = map (λ i. connection_names (instance_connections m ties i)) (instance_numbers m)

-- the lists, in their order
unfoldable pub clash_lists : MergedTop → IrqMap → List Tie → PinMap → List (List (List ℕ))
clash_lists m numbers ties pins =
    known_modules m ∷ file_names m ∷ (port_lists m ties ++ (module_names (top_module m numbers ties pins) ∷ []))

-- the first, or the second where there is none
abbrev pub or_else : Option (List ℕ) → Option (List ℕ) → Option (List ℕ)
or_else None other = other
or_else (Some name) other = Some name

-- the first name that stands twice, in the first list that has one
abbrev pub first_clash : List (List (List ℕ)) → Option (List ℕ)
first_clash [] = None
first_clash (names ∷ lists) = or_else (first_repeat names) (first_clash lists)
