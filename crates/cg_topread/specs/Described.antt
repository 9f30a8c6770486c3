-- The description of a top that breaks no rule.
use Rattle.std.specs.Prelude.{ℕ, cond, List, [], ◌∷◌, ◌++◌, map, flat_map, codes, Option, Some, None, unwrap_or}
use Rattle.std.specs.Option.{option_map_or}
use Rattle.std.specs.Str.{bytes_eq}
use Rattle.cg_desc.specs.declared.top.SpaceDesc.{SpaceDesc}
use Rattle.cg_desc.specs.declared.top.NamePair.{NamePair}
use Rattle.cg_desc.specs.declared.top.SpaceBase.{SpaceBase}
use Rattle.cg_desc.specs.declared.top.FaceBase.{FaceBase}
use Rattle.cg_desc.specs.declared.top.InstDesc.{InstDesc}
use Rattle.cg_desc.specs.declared.top.XbarUse.{XbarUse}
use Rattle.cg_desc.specs.declared.top.Joint.{Joint}
use Rattle.cg_desc.specs.declared.top.Joint.TheVariants as joint
use Rattle.cg_desc.specs.declared.top.SignalDesc.{SignalDesc}
use Rattle.cg_desc.specs.declared.top.TopDesc.{TopDesc}
use Rattle.cg_desc.specs.declared.place.At.{At}
use Rattle.cg_hjson.specs.declared.tree.Tree.{Tree}
use Rattle.cg_hjson.specs.declared.tree.Member.{Member}
use Rattle.cg_keys.specs.Elements.{elements}
use Rattle.cg_keys.specs.Forms.{number_within, or_else}
use Rattle.cg_keys.specs.Lookups.{place_at, text_at}
use Rattle.cg_keys.specs.Table.{value_at}
use Rattle.cg_keys.specs.Values.{items_of, members_of, object_in, text_in}
use Rattle.cg_topread.specs.InOrder.{by_keys}
use Rattle.cg_topread.specs.Listed.{members_at}

-- the address space that is meant where none is named
abbrev pub hart : List ℕ
hart = codes "hart"

-- the string at a key, or else nothing
unfoldable pub text_or_empty : List ℕ → List Member → List ℕ
text_or_empty key ms = unwrap_or (text_at key ms) []

-- ---- names

unfoldable pub name_in : Tree → List ℕ
name_in t = text_or_empty (codes "name") (members_of t)

-- the names of the objects of the list at a key, in the order in which they are written
unfoldable pub names_at : List ℕ → List Member → List (List ℕ)
names_at key ms = map name_in (elements key ms)

unfoldable pub space_in : Tree → SpaceDesc
space_in t = record { name = name_in t; at = place_at (codes "name") (members_of t) t.at }

-- where no spaces are listed there is one, `hart`, whose place is the root's opener
abbrev pub spaces_in : At → Option Tree → List SpaceDesc
spaces_in opener None = record { name = hart; at = opener } ∷ []
spaces_in opener (Some list) = map space_in (items_of list)

-- ---- sources

-- a member's source: a string, or the string at this key of an object
unfoldable pub source_in : List ℕ → Tree → List ℕ
source_in key t = unwrap_or (or_else (text_in t) (text_at key (members_of t))) []

-- a port with its source
abbrev pub pair_of : List ℕ → List ℕ × Tree → NamePair
pair_of key e = record { port = e.0; source = source_in key e.1 }

-- the ports with their sources, in the order of the ports' bytes
unfoldable pub pairs_of : List ℕ → List Member → List NamePair
pairs_of key ms = map (pair_of key) (by_keys ms)

-- ---- base addresses

unfoldable pub base_in : Tree → ℕ
base_in t = unwrap_or (number_within 0 4294967295 t) 0

abbrev pub base_of : List ℕ × Tree → SpaceBase
base_of e = record { space = e.0; base = base_in e.1 }

-- the bases of an object, in the order of the spaces' bytes
unfoldable pub object_bases : List Member → List SpaceBase
object_bases ms = map base_of (by_keys ms)

abbrev pub bases_by : Tree → Option (List Member) → List SpaceBase
bases_by t None = record { space = hart; base = base_in t } ∷ []
bases_by t (Some ms) = object_bases ms

-- the bases that a value says: a number is for `hart`, and an object has one for each space
unfoldable pub bases_in : Tree → List SpaceBase
bases_in t = bases_by t (object_in t)

abbrev pub face_base : List ℕ → SpaceBase → FaceBase
face_base face b = record { face = face; space = b.space; base = b.base }

unfoldable pub face_bases : List ℕ × Tree → List FaceBase
face_bases e = map (face_base e.0) (bases_in e.1)

-- the bases of interfaces, in the order of the interfaces' bytes and then of the spaces'
unfoldable pub faces_bases : List Member → List FaceBase
faces_bases ms = flat_map face_bases (by_keys ms)

-- ---- instances and crossbars

unfoldable pub instance_in : Tree → InstDesc
instance_in t =
    let ms = members_of t in
    record {
      name = name_in t;
      kind = text_or_empty (codes "type") ms;
      clocks = pairs_of (codes "clock") (members_at (codes "clock_srcs") ms);
      resets = pairs_of (codes "name") (members_at (codes "reset_connections") ms);
      base = option_map_or bases_in (value_at (codes "base_addr") ms) [];
      bases = faces_bases (members_at (codes "base_addrs") ms);
      at = place_at (codes "name") ms t.at;
    }

unfoldable pub use_in : Tree → XbarUse
use_in t =
    let ms = members_of t in
    record {
      name = name_in t;
      space = unwrap_or (text_at (codes "addr_space") ms) hart;
      clocks = pairs_of (codes "clock") (members_at (codes "clock_srcs") ms);
      at = place_at (codes "name") ms t.at;
    }

-- ---- signals

-- how a port goes to pins, by its word
abbrev pub joint_of : List ℕ → Joint
joint_of word = cond (bytes_eq word (codes "direct")) joint.Direct (cond (bytes_eq word (codes "manual")) joint.Manual joint.Muxed)

unfoldable pub signal_in : Tree → SignalDesc
signal_in t =
    let ms = members_of t in
    record {
      inst = text_or_empty (codes "instance") ms;
      port = text_or_empty (codes "port") ms;
      joint = joint_of (text_or_empty (codes "connection") ms);
      pad = text_at (codes "pad") ms;
      at = t.at;
    }

-- ---- the top

-- the description of the top whose file has this number
unfoldable pub top_of : ℕ → Tree → TopDesc
top_of file t =
    let ms = members_of t in
    let clocks = members_at (codes "clocks") ms in
    record {
      file = file;
      name = text_or_empty (codes "name") ms;
      sources = names_at (codes "srcs") clocks ++ names_at (codes "derived_srcs") clocks;
      resets = names_at (codes "nodes") (members_at (codes "resets") ms);
      spaces = spaces_in t.at (value_at (codes "addr_spaces") ms);
      insts = map instance_in (elements (codes "module") ms);
      xbars = map use_in (elements (codes "xbar") ms);
      pads = names_at (codes "pads") (members_at (codes "pinout") ms);
      signals = map signal_in (elements (codes "signals") (members_at (codes "pinmux") ms));
      at = t.at;
    }
