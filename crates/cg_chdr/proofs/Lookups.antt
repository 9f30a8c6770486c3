-- What stands at a number of a top: instances, their blocks and their bases.
use Rattle.std.proofs.Common.{◌≡◌, ℕ, zero, suc, ◌↔◌, List, [], ◌∷◌, get_or, length, Option, Some, None, refl, ap, sym, ◌∙◌, arith}
use Rattle.std.specs.List.{slice_get}
use Rattle.std.proofs.lemmas.List.{get_or_read, get_or_past}
use Rattle.cg_desc.proofs.FoundBases.{found_is, is_found}
use Rattle.cg_desc.specs.FoundBase as found
use Rattle.cg_desc.specs.FoundBase.{found_base, block_at}
use Rattle.cg_desc.specs.Merged.{AreKinds, BaseIs, design_of}
use Rattle.cg_desc.specs.Top.{AreItsFiles}
use Rattle.cg_desc.specs.declared.block.LaidBlock.{LaidBlock}
use Rattle.cg_desc.specs.declared.top.MergedTop.{MergedTop}
use Rattle.cg_topspec.proofs.Relations.{get_or_is}
use Rattle.cg_topspec.specs.Top.{block_of, no_block}

pub ruleset lookups = (get_or_read, get_or_past)

-- ---- blocks

-- nothing stands at a number that has no item
no_item : {A : Type 0} (xs : List A) (i : ℕ) (d : A) → slice_get xs i ≡ None → get_or xs i d ≡ d
no_item [] i d e = refl
no_item (x ∷ xs) zero d e = cc
no_item (x ∷ xs) (suc i) d e = no_item xs i d e

-- the block that is found is that of the instance
pub block_read : (m : MergedTop) (i : ℕ) (b : LaidBlock) → found.block_of m i ≡ Some b → b ≡ block_of m i
unfolding found.block_of found.block_at
block_read m i b e = by (slice_get m.kinds i) refl e where
  by : (o : Option ℕ) → slice_get m.kinds i ≡ o → found.block_at m.blocks o ≡ Some b → b ≡ block_of m i
  by None kind is = cc
  by (Some k) kind is = sym (ap (λ n. get_or m.blocks n no_block) (get_or_is m.kinds i (length m.blocks) k kind) ∙ get_or_is m.blocks k no_block b is)

-- and where none is found there is none
pub block_missing : (m : MergedTop) (i : ℕ) → found.block_of m i ≡ None → block_of m i ≡ no_block
unfolding found.block_of found.block_at
block_missing m i e = by (slice_get m.kinds i) refl e where
  by : (o : Option ℕ) → slice_get m.kinds i ≡ o → found.block_at m.blocks o ≡ None → block_of m i ≡ no_block
  by None kind is = ap (λ n. get_or m.blocks n no_block) (no_item m.kinds i (length m.blocks) kind) ∙ get_or_past m.blocks (length m.blocks) no_block (omega arith)
  by (Some k) kind is = ap (λ n. get_or m.blocks n no_block) (get_or_is m.kinds i (length m.blocks) k kind) ∙ no_item m.blocks k no_block is

pub ruleset blocks = (block_read, block_missing)

-- ---- bases

-- a base that is found just where there is one is the one that is looked for
pub base_read : (m : MergedTop) (i f : ℕ) (o : Option ℕ) → AreItsFiles (design_of m) → AreKinds m → ((base : ℕ) → (o ≡ Some base) ↔ BaseIs m i f base) → o ≡ found_base m i f
base_read m i f o files kinds same = by o (found_base m i f) refl refl where
  by : (a b : Option ℕ) → o ≡ a → found_base m i f ≡ b → o ≡ found_base m i f
  by (Some base) b p q = p ∙ sym (is_found m files kinds i f base ((same base).0 p))
  by None None p q = p ∙ sym q
  by None (Some base) p q = (same base).1 (found_is m files kinds i f base q) ∙ sym q
