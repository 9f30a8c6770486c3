-- What a top's description breaks of the rules on keys, kinds, names and lengths, each as a fact with its place and its name.
use Rattle.std.specs.Prelude.{◌≡◌, ℕ, ◌<◌, false, List, codes, Some}
use Rattle.cg_desc.specs.declared.place.At.{At}
use Rattle.cg_finding.specs.Finding.{Finding}
use Rattle.cg_finding.specs.Rules as rules
use Rattle.cg_hjson.specs.declared.tree.Tree.{Tree}
use Rattle.cg_hjson.specs.declared.tree.Member.{Member}
use Rattle.cg_keys.specs.Forms.{fits_one}
use Rattle.cg_keys.specs.Lists.{InElement, InMember, InObject, TooLong, TooShort, WrongElement}
use Rattle.cg_keys.specs.Table.{Key, misfit, value_at}
use Rattle.cg_keys.specs.Values.{items_of, members_of, object_in}
use Rattle.cg_keys.specs.Violations.{BreaksTable, DuplicateKey}
use Rattle.cg_keys.specs.declared.forms.Form.{Form}
use Rattle.cg_keys.specs.declared.forms.Form.TheVariants.{Object}
use Rattle.cg_topread.specs.Tables.{base_forms, bases_forms, clock_source_keys, clocks_keys, instance_keys, named_keys, pinmux_keys, pinout_keys, reset_source_keys, resets_keys, signal_keys, source_forms, top_keys, use_keys}
use Rattle.cg_topread.specs.Types.{type_count}

-- ---- members that stand for sources, and for base addresses

-- 22, 24: a member's value has none of these forms; at the value, with the member's key
abbrev pub Misfit : List Form → List ℕ → Tree → Finding → Type 0
Misfit forms key value f = (fits_one forms value ≡ false) × (f ≡ misfit key forms value)

-- a member stands for a source: a string, or an object by this table
pub data BreaksSource (ks : List Key) (key : List ℕ) (value : Tree) (f : Finding) : Type 0 where
  wrong_form : Misfit source_forms key value f → BreaksSource ks key value f
  in_object : (inner : List Member) → object_in value ≡ Some inner → BreaksTable value.at inner ks f → BreaksSource ks key value f

abbrev pub BreaksSources : List Key → At → List Member → Finding → Type 0
BreaksSources ks opener ms f = InMember (BreaksSource ks) ms f

-- an object of base addresses, by the names of address spaces
abbrev pub BreaksBases : At → List Member → Finding → Type 0
BreaksBases opener ms f = InMember (Misfit base_forms) ms f

-- a member stands for the bases of an interface: a number, or an object of them
pub data BreaksFace (key : List ℕ) (value : Tree) (f : Finding) : Type 0 where
  wrong_form : Misfit bases_forms key value f → BreaksFace key value f
  in_object : (inner : List Member) → object_in value ≡ Some inner → BreaksBases value.at inner f → BreaksFace key value f

abbrev pub BreaksFaces : At → List Member → Finding → Type 0
BreaksFaces opener ms f = InMember BreaksFace ms f

-- ---- instances and crossbars

pub data BreaksInstance (opener : At) (ms : List Member) (f : Finding) : Type 0 where
  keys : BreaksTable opener ms instance_keys f → BreaksInstance opener ms f
  in_clocks : InObject (BreaksSources clock_source_keys) ms (codes "clock_srcs") f → BreaksInstance opener ms f
  in_resets : InObject (BreaksSources reset_source_keys) ms (codes "reset_connections") f → BreaksInstance opener ms f
  in_bases : InObject BreaksBases ms (codes "base_addr") f → BreaksInstance opener ms f
  in_faces : InObject BreaksFaces ms (codes "base_addrs") f → BreaksInstance opener ms f

pub data BreaksUse (opener : At) (ms : List Member) (f : Finding) : Type 0 where
  keys : BreaksTable opener ms use_keys f → BreaksUse opener ms f
  in_clocks : InObject (BreaksSources clock_source_keys) ms (codes "clock_srcs") f → BreaksUse opener ms f

-- 22: the elements of `module` have more than 64 types that are names; at the list
pub record TooManyTypes (ms : List Member) (f : Finding) : Type 0 where
  pub list : Tree
  pub there : value_at (codes "module") ms ≡ Some list
  pub many : 64 < type_count (items_of list)
  pub says : f ≡ rules.wrong_kind list.at (codes "module")

-- ---- sections

abbrev pub BreaksNamed : At → List Member → Finding → Type 0
BreaksNamed opener ms f = BreaksTable opener ms named_keys f

-- the list at a key is one of objects with names
pub data BreaksNames (key : List ℕ) (ms : List Member) (f : Finding) : Type 0 where
  no_object : WrongElement Object ms key f → BreaksNames key ms f
  in_element : InElement BreaksNamed ms key f → BreaksNames key ms f

pub data BreaksClocks (opener : At) (ms : List Member) (f : Finding) : Type 0 where
  keys : BreaksTable opener ms clocks_keys f → BreaksClocks opener ms f
  sources : BreaksNames (codes "srcs") ms f → BreaksClocks opener ms f
  derived : BreaksNames (codes "derived_srcs") ms f → BreaksClocks opener ms f

pub data BreaksResets (opener : At) (ms : List Member) (f : Finding) : Type 0 where
  keys : BreaksTable opener ms resets_keys f → BreaksResets opener ms f
  nodes : BreaksNames (codes "nodes") ms f → BreaksResets opener ms f

pub data BreaksPinout (opener : At) (ms : List Member) (f : Finding) : Type 0 where
  keys : BreaksTable opener ms pinout_keys f → BreaksPinout opener ms f
  many_pads : TooLong 256 ms (codes "pads") f → BreaksPinout opener ms f
  pads : BreaksNames (codes "pads") ms f → BreaksPinout opener ms f

abbrev pub BreaksSignal : At → List Member → Finding → Type 0
BreaksSignal opener ms f = BreaksTable opener ms signal_keys f

pub data BreaksPinmux (opener : At) (ms : List Member) (f : Finding) : Type 0 where
  keys : BreaksTable opener ms pinmux_keys f → BreaksPinmux opener ms f
  many_signals : TooLong 1024 ms (codes "signals") f → BreaksPinmux opener ms f
  no_signal : WrongElement Object ms (codes "signals") f → BreaksPinmux opener ms f
  in_signal : InElement BreaksSignal ms (codes "signals") f → BreaksPinmux opener ms f

-- ---- all of them

-- what a top with these members, whose object opens here, breaks beside keys that stand twice
pub data BreaksTop (opener : At) (ms : List Member) (f : Finding) : Type 0 where
  keys : BreaksTable opener ms top_keys f → BreaksTop opener ms f
  in_clocks : InObject BreaksClocks ms (codes "clocks") f → BreaksTop opener ms f
  in_resets : InObject BreaksResets ms (codes "resets") f → BreaksTop opener ms f
  no_space : TooShort 1 ms (codes "addr_spaces") f → BreaksTop opener ms f
  many_spaces : TooLong 8 ms (codes "addr_spaces") f → BreaksTop opener ms f
  spaces : BreaksNames (codes "addr_spaces") ms f → BreaksTop opener ms f
  many_instances : TooLong 256 ms (codes "module") f → BreaksTop opener ms f
  many_types : TooManyTypes ms f → BreaksTop opener ms f
  no_instance : WrongElement Object ms (codes "module") f → BreaksTop opener ms f
  in_instance : InElement BreaksInstance ms (codes "module") f → BreaksTop opener ms f
  many_crossbars : TooLong 16 ms (codes "xbar") f → BreaksTop opener ms f
  no_crossbar : WrongElement Object ms (codes "xbar") f → BreaksTop opener ms f
  in_crossbar : InElement BreaksUse ms (codes "xbar") f → BreaksTop opener ms f
  in_pinout : InObject BreaksPinout ms (codes "pinout") f → BreaksTop opener ms f
  in_pinmux : InObject BreaksPinmux ms (codes "pinmux") f → BreaksTop opener ms f

-- What a top breaks.
pub data Violates (t : Tree) (f : Finding) : Type 0 where
  duplicate : DuplicateKey t f → Violates t f
  top : BreaksTop t.at (members_of t) f → Violates t f
