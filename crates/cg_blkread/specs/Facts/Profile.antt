-- Rule 26: what is asked for is outside the profile, as facts on a block's document.
use Rattle.std.specs.Prelude.{◌≡◌, ◌⊎◌, ◌<◌, ℕ, codes, List, length, Option, Some, None}
use Rattle.cg_svspec.specs.Names.{Among}
use Rattle.cg_desc.specs.declared.block.SwAccess.{SwAccess}
use Rattle.cg_desc.specs.declared.block.SwAccess.TheVariants.{Ro, Rw, Wo, Nothing}
use Rattle.cg_desc.specs.declared.block.HwAccess.{HwAccess}
use Rattle.cg_desc.specs.declared.block.HwAccess.TheVariants as hardware_access
use Rattle.cg_hjson.specs.declared.tree.Tree.{Tree}
use Rattle.cg_finding.specs.Finding.{Finding}
use Rattle.cg_finding.specs.Rules.{outside_the_profile}
use Rattle.cg_keys.specs.Forms.{boolean_in, hardware, number_within, software}
use Rattle.cg_keys.specs.Values.{array_in, members_of, object_in, text_in}
use Rattle.cg_blkread.specs.Bits.{bits_in, width_of}
use Rattle.cg_blkread.specs.Interfaces.{interfaces}
use Rattle.cg_blkread.specs.Facts.Parts.{HasAt, HasNot, HasTrueAt, IsEntry, IsFieldOf, IsMultireg, IsRegister}
use Rattle.cg_blkread.specs.declared.raw.Bits.{Bits}

-- a value is the word of this kind
abbrev pub IsWordOf : {K : Type 0} → (List ℕ → Option K) → Tree → K → Type 0
IsWordOf kinds value kind = (word : List ℕ) × (text_in value ≡ Some word) × (kinds word ≡ Some kind)

-- The kind that counts for a field, by its word at a key: its own, or else its register's, or else this one. Where that has not
-- its form, no kind counts.
pub data Counts {K : Type 0} (kinds : List ℕ → Option K) (otherwise : K) (key : List ℕ) (register field : Tree) : K → Type 0 where
  own : {kind : K} (value : Tree) → HasAt key field value → IsWordOf kinds value kind → Counts kinds otherwise key register field kind
  of_register : {kind : K} (value : Tree) → HasNot key field → HasAt key register value → IsWordOf kinds value kind
      → Counts kinds otherwise key register field kind
  neither : HasNot key field → HasNot key register → Counts kinds otherwise key register field otherwise

-- how software accesses a field: by default not at all
abbrev pub SoftwareCounts : Tree → Tree → SwAccess → Type 0
SoftwareCounts register field kind = Counts software Nothing (codes "swaccess") register field kind

-- how hardware accesses it: by default it reads
abbrev pub HardwareCounts : Tree → Tree → HwAccess → Type 0
HardwareCounts register field kind = Counts hardware hardware_access.Hro (codes "hwaccess") register field kind

-- a value at the key, if there is one, is a boolean
abbrev pub IsBooleanIfAny : List ℕ → Tree → Type 0
IsBooleanIfAny key t = (value : Tree) → HasAt key t value → ¬ (boolean_in value ≡ None)

-- ---- shadowed registers

-- What is asked of a shadowed register has its form: `hwext`, `fields`, and for each field, which is an object, the kinds that count.
pub record CanBeJudged (r : Tree) : Type 0 where
  pub hwext : IsBooleanIfAny (codes "hwext") r
  pub fields : (value : Tree) → HasAt (codes "fields") r value → ¬ (array_in value ≡ None)
  pub objects : (field : Tree) → IsFieldOf r field → ¬ (object_in field ≡ None)
  pub software_kinds : (field : Tree) → IsFieldOf r field → (kind : SwAccess) × SoftwareCounts r field kind
  pub hardware_kinds : (field : Tree) → IsFieldOf r field → (kind : HwAccess) × HardwareCounts r field kind

-- why a register cannot be shadowed: it has no storage, or a field of another software kind than `rw`, or one that hardware writes
pub data CannotBeShadowed (r : Tree) : Type 0 where
  external : (value : Tree) → HasTrueAt (codes "hwext") r value → CannotBeShadowed r
  other_software : (field : Tree) (kind : SwAccess) → IsFieldOf r field → SoftwareCounts r field kind → ¬ (kind ≡ Rw) → CannotBeShadowed r
  written_by_hardware : (field : Tree) (kind : HwAccess) → IsFieldOf r field → HardwareCounts r field kind → ¬ (kind ≡ hardware_access.Hro)
      → ¬ (kind ≡ hardware_access.Nothing) → CannotBeShadowed r

-- ---- multi-bit booleans

-- a field of good bits has another number of bits than four
pub record HasOtherWidth (field : Tree) : Type 0 where
  pub value : Tree
  pub bits : Bits
  pub there : HasAt (codes "bits") field value
  pub good : bits_in value ≡ Some bits
  pub other : ¬ (width_of bits ≡ 4)

-- the kind that counts for a field is another than `rw`, `ro` and `wo`
pub record HasOtherKind (register field : Tree) : Type 0 where
  pub kind : SwAccess
  pub counts : SoftwareCounts register field kind
  pub not_rw : ¬ (kind ≡ Rw)
  pub not_ro : ¬ (kind ≡ Ro)
  pub not_wo : ¬ (kind ≡ Wo)

-- ---- compacted copies

-- `fields` is a list of objects, and these are its elements
pub record HasFields (register : Tree) (fields : List Tree) : Type 0 where
  pub value : Tree
  pub there : HasAt (codes "fields") register value
  pub is_list : array_in value ≡ Some fields
  pub objects : (field : Tree) → Among field fields → ¬ (object_in field ≡ None)

-- copies of a multireg cannot share words: they have several fields, or gates of their own
pub record CannotBeCompact (m : Tree) : Type 0 where
  pub fields : List Tree
  pub has_fields : HasFields m fields
  pub gates_told : IsBooleanIfAny (codes "regwen_multi") m
  pub why : (1 < length fields) ⊎ ((value : Tree) × HasTrueAt (codes "regwen_multi") m value)

-- ---- all of it

-- what a block breaks of this rule
pub data BreaksProfile (t : Tree) : Finding → Type 0 where
  -- registers of another width than 32 bits
  width : (value : Tree) (n : ℕ) → HasAt (codes "regwidth") t value → number_within 0 4294967295 value ≡ Some n → ¬ (n ≡ 32)
      → BreaksProfile t (outside_the_profile value.at (codes "regwidth"))
  -- an interface of another protocol than TL-UL
  protocol : (i value : Tree) (word : List ℕ) → Among i (interfaces (members_of t)) → HasAt (codes "protocol") i value → text_in value ≡ Some word
      → ¬ (word ≡ codes "tlul") → BreaksProfile t (outside_the_profile value.at (codes "protocol"))
  -- a shadowed register that has no storage, or a field that takes other values than those of two equal writes
  shadowed : (r value : Tree) → IsRegister t r → HasTrueAt (codes "shadowed") r value → CanBeJudged r → CannotBeShadowed r
      → BreaksProfile t (outside_the_profile value.at (codes "shadowed"))
  -- a register of another clock, or one that is an alias: the keys count by their presence
  asynchronous : (r value : Tree) → IsRegister t r → HasAt (codes "async") r value → BreaksProfile t (outside_the_profile value.at (codes "async"))
  synchronous : (r value : Tree) → IsRegister t r → HasAt (codes "sync") r value → BreaksProfile t (outside_the_profile value.at (codes "sync"))
  alias : (r value : Tree) → IsRegister t r → HasAt (codes "alias_target") r value → BreaksProfile t (outside_the_profile value.at (codes "alias_target"))
  -- an entry at the address of others
  same_address : (e value : Tree) → IsEntry t e → HasAt (codes "sameaddr") e value → BreaksProfile t (outside_the_profile value.at (codes "sameaddr"))
  -- a multi-bit boolean of another width than 4, or of another kind than `rw`, `ro` and `wo`
  multibit : (r f value : Tree) → IsRegister t r → IsFieldOf r f → HasTrueAt (codes "mubi") f value → HasOtherWidth f ⊎ HasOtherKind r f
      → BreaksProfile t (outside_the_profile value.at (codes "mubi"))
  -- compacted copies of several fields, or with gates of their own
  compact : (m value : Tree) → IsMultireg t m → HasTrueAt (codes "compact") m value → CannotBeCompact m
      → BreaksProfile t (outside_the_profile value.at (codes "compact"))
