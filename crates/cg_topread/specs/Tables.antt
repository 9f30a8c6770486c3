-- The keys of a top's objects, with the forms of their values (OpenTitan Top Generation Tool).
use Rattle.std.specs.Prelude.{List, [], ◌∷◌, codes}
use Rattle.cg_keys.specs.Table.{Key, needs, may}
use Rattle.cg_keys.specs.declared.forms.Form.{Form}
use Rattle.cg_keys.specs.declared.forms.Form.TheVariants.{Text, Name, Number, Items, Object, Word}
use Rattle.cg_keys.specs.declared.words.Words.TheVariants.{Joint}

abbrev pub top_keys : List Key
top_keys =
    needs (codes "name") (Name ∷ [])
    ∷ needs (codes "clocks") (Object ∷ [])
    ∷ needs (codes "resets") (Object ∷ [])
    ∷ may (codes "addr_spaces") (Items ∷ [])
    ∷ needs (codes "module") (Items ∷ [])
    ∷ needs (codes "xbar") (Items ∷ [])
    ∷ may (codes "pinout") (Object ∷ [])
    ∷ may (codes "pinmux") (Object ∷ [])
    ∷ []

-- an object that has a name, as a clock, a reset, an address space or a pad
abbrev pub named_keys : List Key
named_keys = needs (codes "name") (Name ∷ []) ∷ []

abbrev pub clocks_keys : List Key
clocks_keys = needs (codes "srcs") (Items ∷ []) ∷ may (codes "derived_srcs") (Items ∷ []) ∷ []

abbrev pub resets_keys : List Key
resets_keys = needs (codes "nodes") (Items ∷ []) ∷ []

abbrev pub pinout_keys : List Key
pinout_keys = may (codes "pads") (Items ∷ []) ∷ []

abbrev pub pinmux_keys : List Key
pinmux_keys = may (codes "signals") (Items ∷ []) ∷ []

-- a base address is a number of 32 bits
abbrev pub base_forms : List Form
base_forms = Number 0 4294967295 ∷ []

-- a base address, or an object of them by the names of address spaces
abbrev pub bases_forms : List Form
bases_forms = Number 0 4294967295 ∷ Object ∷ []

-- a source by its name, or in an object that names it
abbrev pub source_forms : List Form
source_forms = Text ∷ Object ∷ []

abbrev pub instance_keys : List Key
instance_keys =
    needs (codes "name") (Name ∷ [])
    ∷ needs (codes "type") (Name ∷ [])
    ∷ may (codes "clock_srcs") (Object ∷ [])
    ∷ may (codes "reset_connections") (Object ∷ [])
    ∷ may (codes "base_addr") bases_forms
    ∷ may (codes "base_addrs") (Object ∷ [])
    ∷ []

-- a crossbar that a top lists
abbrev pub use_keys : List Key
use_keys = needs (codes "name") (Name ∷ []) ∷ may (codes "addr_space") (Name ∷ []) ∷ may (codes "clock_srcs") (Object ∷ []) ∷ []

abbrev pub signal_keys : List Key
signal_keys =
    needs (codes "instance") (Text ∷ [])
    ∷ may (codes "port") (Text ∷ [])
    ∷ needs (codes "connection") (Word Joint ∷ [])
    ∷ may (codes "pad") (Text ∷ [])
    ∷ []

-- an object that stands for a clock's source, and one for a reset's
abbrev pub clock_source_keys : List Key
clock_source_keys = needs (codes "clock") (Text ∷ []) ∷ []

abbrev pub reset_source_keys : List Key
reset_source_keys = needs (codes "name") (Text ∷ []) ∷ []
