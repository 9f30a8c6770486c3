-- The names in entries, where no rule on keys is broken.
use Rattle.std.proofs.Common.{ℕ, List, codes, Option, Some, None}
use Rattle.std.specs.Bool.{⊤}
use Rattle.std.specs.Option.{MatchOption}
use Rattle.cg_svspec.specs.Characters.{IsWord}
use Rattle.cg_svspec.specs.Printable.{AllOf}
use Rattle.cg_hjson.specs.declared.tree.Tree.{Tree}
use Rattle.cg_keys.specs.Elements.{elements}
use Rattle.cg_keys.specs.Lookups.{text_at}
use Rattle.cg_keys.specs.Table.{value_at}
use Rattle.cg_keys.specs.Values.{members_of}
use Rattle.cg_blkread.specs.Raw.{text_or_empty}

abbrev pub WordIfAny : Option (List ℕ) → Type 0
WordIfAny None = Unit {0}
WordIfAny (Some name) = IsWord name

-- a field has no name, or a word
abbrev pub NamesFit : Tree → Type 0
NamesFit t = WordIfAny (text_at (codes "name") (members_of t))

-- the object's name is a word
abbrev pub HasName : Tree → Type 0
HasName t = IsWord (text_or_empty (text_at (codes "name") (members_of t)))

-- the names of a register and of its fields are words
abbrev pub RegisterWords : Tree → Type 0
RegisterWords t = HasName t × AllOf NamesFit (elements (codes "fields") (members_of t))

-- the names in an entry are words
abbrev pub EntryWords : Tree → Type 0
EntryWords t =
    MatchOption (value_at (codes "multireg") (members_of t))
    (MatchOption (value_at (codes "window") (members_of t))
    (MatchOption (value_at (codes "skipto") (members_of t))
    (MatchOption (value_at (codes "reserved") (members_of t)) (RegisterWords t) (λ r. ⊤))
    (λ s. ⊤))
    HasName)
    RegisterWords
