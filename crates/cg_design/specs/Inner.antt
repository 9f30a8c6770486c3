-- A name that is another one, and the earlier of a refusal and of what is found beside it.
pub mod Reading
use Rattle.std.specs.Prelude.{◌≡◌, ◌⊎◌, ℕ, cond, List, codes, Option, Some, None}
use Rattle.std.specs.Str.{bytes_eq}
use Rattle.cg_desc.specs.Faults.{Before}
use Rattle.cg_desc.specs.declared.fault.DescFault.{DescFault}
use Rattle.cg_desc.specs.declared.fault.DescFault.TheVariants as refusal
use Rattle.cg_finding.specs.Finding.{Finding, in_file}
use Rattle.cg_finding.specs.Rules as rules
use Rattle.cg_hjson.specs.declared.tree.Tree.{Tree}
use Rattle.cg_keys.specs.Lookups.{place_at, text_at}
use Rattle.cg_keys.specs.Values.{members_of}

-- what is found where there is a text, and another one than this name
abbrev pub found_unless : Finding → List ℕ → Option (List ℕ) → Option Finding
found_unless f name None = None
found_unless f name (Some text) = cond (bytes_eq text name) None (Some f)

-- the string at `name` is another one
unfoldable pub misnamed : List ℕ → Tree → Option Finding
misnamed name t =
    found_unless (rules.bad_name (place_at (codes "name") (members_of t) t.at) (codes "name")) name (text_at (codes "name") (members_of t))

-- the answer names the finding, in the file of this number, where it is before the fault, and else the fault; or memory was not found
abbrev pub KeepsFault : DescFault → DescFault → Finding → ℕ → Type 0
KeepsFault (refusal.Fault kept) (refusal.Fault fault) f file =
    (Before (in_file file f) fault × (kept ≡ in_file file f)) ⊎ ((¬ Before (in_file file f) fault) × (kept ≡ fault))
KeepsFault (refusal.Fault kept) refusal.Memory f file = ⊥
KeepsFault refusal.Memory fault f file = Unit {0}

abbrev pub KeepsFirst : DescFault → Option Finding → ℕ → DescFault → Type 0
KeepsFirst refused None file kept = kept ≡ refused
KeepsFirst refused (Some f) file kept = KeepsFault kept refused f file
