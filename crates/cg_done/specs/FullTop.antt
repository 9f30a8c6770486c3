-- A top's description with everything said: what is known has its plain form, and what has a default is there. Unknown keys stay.
use Rattle.std.specs.Prelude.{List, [], ◌∷◌, ◌++◌, map, codes, Option, Some, None, option_map, unwrap_or}
use Rattle.serde_json.specs.Data.{Data, string, object, member, no_members}
use Rattle.cg_hjson.specs.Json.{json_of}
use Rattle.cg_hjson.specs.Views.{tree_of}
use Rattle.cg_hjson.specs.declared.tree.Tree.{Tree}
use Rattle.cg_hjson.specs.declared.tree.Member.{Member}
use Rattle.cg_keys.specs.Lookups.{text_at}
use Rattle.cg_keys.specs.Table.{value_at}
use Rattle.cg_keys.specs.Values.{members_of, object_in}
use Rattle.cg_topread.specs.Described.{base_in, hart}
use Rattle.cg_blkdone.specs.Full.{Pair, list_of, list_pair, number_of, pair, pair_if, said_with}

-- ---- values

-- what is there as it stands, and the default where nothing is
abbrev pub value_or : Data → Option Tree → Data
value_or default None = default
value_or default (Some t) = json_of (tree_of t)

-- an object of names alone has all that it can say
abbrev pub as_it_stands : Tree → Data
as_it_stands t = json_of (tree_of t)

abbrev pub no_ports : Data
no_ports = object no_members

-- the one space that there is where none is listed
abbrev pub one_space : Data
one_space = list_of (object (member (codes "name") (string hart) no_members) ∷ [])

-- ---- base addresses

-- a number, or an object with a number for each space
abbrev pub bases_by : Tree → Option (List Member) → Data
bases_by t None = number_of (base_in t)
bases_by t (Some ms) = said_with (map (λ m. pair m.key (number_of (base_in m.value))) ms) t

unfoldable pub full_base : Tree → Data
full_base t = bases_by t (object_in t)

-- one of these for each interface
unfoldable pub full_bases : Tree → Data
full_bases t = said_with (map (λ m. pair m.key (full_base m.value)) (members_of t)) t

-- ---- instances, crossbars and signals

unfoldable pub instance_pairs : List Member → List Pair
instance_pairs ms =
    pair (codes "clock_srcs") (value_or no_ports (value_at (codes "clock_srcs") ms))
    ∷ pair (codes "reset_connections") (value_or no_ports (value_at (codes "reset_connections") ms))
    ∷ (pair_if (codes "base_addr") (option_map full_base (value_at (codes "base_addr") ms))
    ++ pair_if (codes "base_addrs") (option_map full_bases (value_at (codes "base_addrs") ms)))

unfoldable pub full_instance : Tree → Data
full_instance t = said_with (instance_pairs (members_of t)) t

unfoldable pub use_pairs : List Member → List Pair
use_pairs ms =
    pair (codes "addr_space") (string (unwrap_or (text_at (codes "addr_space") ms) hart))
    ∷ pair (codes "clock_srcs") (value_or no_ports (value_at (codes "clock_srcs") ms))
    ∷ []

unfoldable pub full_use : Tree → Data
full_use t = said_with (use_pairs (members_of t)) t

-- an empty port is all ports of the instance
unfoldable pub full_signal : Tree → Data
full_signal t = said_with (pair (codes "port") (string (unwrap_or (text_at (codes "port") (members_of t)) [])) ∷ []) t

-- ---- the top

unfoldable pub full_clocks : Tree → Data
full_clocks t = said_with (list_pair (codes "derived_srcs") as_it_stands (members_of t) ∷ []) t

unfoldable pub full_pinout : Tree → Data
full_pinout t = said_with (list_pair (codes "pads") as_it_stands (members_of t) ∷ []) t

unfoldable pub full_pinmux : Tree → Data
full_pinmux t = said_with (list_pair (codes "signals") full_signal (members_of t) ∷ []) t

-- an object that may be missing is completed where it is there, and not added
unfoldable pub top_pairs : List Member → List Pair
top_pairs ms =
    pair (codes "addr_spaces") (value_or one_space (value_at (codes "addr_spaces") ms))
    ∷ list_pair (codes "module") full_instance ms
    ∷ list_pair (codes "xbar") full_use ms
    ∷ (pair_if (codes "clocks") (option_map full_clocks (value_at (codes "clocks") ms))
    ++ (pair_if (codes "pinout") (option_map full_pinout (value_at (codes "pinout") ms))
    ++ pair_if (codes "pinmux") (option_map full_pinmux (value_at (codes "pinmux") ms))))

-- the description of a top that breaks no rule, with everything said
unfoldable pub full_top : Tree → Data
full_top t = said_with (top_pairs (members_of t)) t
