-- One text more is put, of the crossbars and of the blocks, and one crossbar's ranges more are had.
use Rattle.std.proofs.Common.{◌≡◌, ◌+◌, ◌<◌, ◌≤◌, ℕ, zero, suc, List, [], ◌∷◌, ◌++◌, length, drop, drop-cons, add-one, get_or, Option, Some, None, Result, Ok, Err, refl, sym, ap, subst, ◌∙◌, arith}
use Rattle.std.specs.List.{slice_get}
use Rattle.std.proofs.lemmas.List.{drop_all}
use Rattle.cg_desc.specs.Crossbar.{IsValidCrossbar}
use Rattle.cg_desc.specs.Ranges.{AreRangesOf}
use Rattle.cg_desc.specs.declared.block.LaidBlock.{LaidBlock}
use Rattle.cg_desc.specs.declared.crossbar.XbarDesc.{XbarDesc}
use Rattle.cg_desc.specs.declared.fault.DescFault.{DescFault}
use Rattle.cg_desc.specs.declared.fault.Fault.{Fault}
use Rattle.cg_hjson.specs.declared.tree.Tree.{Tree}
use Rattle.cg_outputs.specs.declared.out_file.OutFile.{OutFile}
use Rattle.cg_outputs.specs.Inner.{put_output, put_outputs}
use Rattle.cg_block.specs.Outputs as block
use Rattle.cg_crossbar.specs.Outputs as crossbar
use Rattle.cg_chip.specs.Inner.{AllFit, AreDescribed, IsDescribed, block_fault, block_texts, blocks_fault, crossbar_fault, crossbar_texts, crossbars_fault, or_later}
use Rattle.cg_chip.specs.declared.chip.XbarRanges.{XbarRanges}
use Rattle.cg_chip.proofs.Telling.{Told, told_of_part}

-- ---- files that are put

-- files that are put behind others are put after them
pub put_more : (before xs ys : List OutFile) → put_outputs before (xs ++ ys) ≡ put_outputs (put_outputs before xs) ys
unfolding put_outputs
put_more before [] ys = refl
put_more before (x ∷ xs) ys = put_more (put_output x before) xs ys

-- a list begins with its item
front : {A : Type 0} (xs : List A) (i : ℕ) (x : A) → i < length xs → x ≡ get_or xs i x → drop i xs ≡ x ∷ drop (i + 1) xs
front xs i x h e = rw add-one (drop-cons xs i x h ∙ ap (λ y. y ∷ drop (suc i) xs) (sym e))

-- what an item of a list owes its place
item_is : {A : Type 0} (xs : List A) (i : ℕ) (x : A) → i < length xs → x ≡ get_or xs i x → slice_get xs i ≡ Some x
item_is [] i x h e = absurd (omega (arith, h))
item_is (y ∷ ys) zero x h e = ap Some (sym e)
item_is (y ∷ ys) (suc i) x h e = item_is ys i x (omega (arith, h)) e

-- ---- crossbars

crossbar_cut : (xs : List XbarDesc) (rs : List XbarRanges) (i : ℕ) (x : XbarDesc) (r : XbarRanges) → i < length xs → length rs ≡ length xs → x ≡ get_or xs i x → r ≡ get_or rs i r
    → crossbar_texts (drop i xs) (drop i rs) ≡ crossbar.crossbar_output x r.ranges ∷ crossbar_texts (drop (i + 1) xs) (drop (i + 1) rs)
crossbar_cut xs rs i x r h count is also =
    ap (λ ys. crossbar_texts ys (drop i rs)) (front xs i x h is) ∙ ap (crossbar_texts (x ∷ drop (i + 1) xs)) (front rs i r (omega (arith, h, count)) also)

-- one crossbar's text more is put
pub crossbar_put : (xs : List XbarDesc) (rs : List XbarRanges) (i : ℕ) (x : XbarDesc) (r : XbarRanges) (before now all : List OutFile) (o : OutFile) → i < length xs
    → length rs ≡ length xs → x ≡ get_or xs i x → r ≡ get_or rs i r → o ≡ crossbar.crossbar_output x r.ranges → now ≡ put_output o before
    → put_outputs before (crossbar_texts (drop i xs) (drop i rs)) ≡ all → put_outputs now (crossbar_texts (drop (i + 1) xs) (drop (i + 1) rs)) ≡ all
unfolding put_outputs
crossbar_put xs rs i x r before now all o h count is also text put so =
    let rest : List OutFile = crossbar_texts (drop (i + 1) xs) (drop (i + 1) rs) in
    ap (λ os. put_outputs os rest) (put ∙ ap (λ d. put_output d before) text)
    ∙ sym (ap (put_outputs before) (crossbar_cut xs rs i x r h count is also)) ∙ so

crossbar_told : (xs : List XbarDesc) (rs : List XbarRanges) (i : ℕ) (x : XbarDesc) (r : XbarRanges) → i < length xs → length rs ≡ length xs → x ≡ get_or xs i x → r ≡ get_or rs i r
    → crossbars_fault (drop i xs) (drop i rs) ≡ or_later (crossbar_fault x r) (crossbars_fault (drop (i + 1) xs) (drop (i + 1) rs))
crossbar_told xs rs i x r h count is also =
    ap (λ ys. crossbars_fault ys (drop i rs)) (front xs i x h is) ∙ ap (crossbars_fault (x ∷ drop (i + 1) xs)) (front rs i r (omega (arith, h, count)) also)

-- where none comes twice there, the others' first is theirs
pub crossbar_clear : (xs : List XbarDesc) (rs : List XbarRanges) (i : ℕ) (x : XbarDesc) (r : XbarRanges) (all : Option Fault) → i < length xs → length rs ≡ length xs
    → x ≡ get_or xs i x → r ≡ get_or rs i r → crossbar_fault x r ≡ None → crossbars_fault (drop i xs) (drop i rs) ≡ all → crossbars_fault (drop (i + 1) xs) (drop (i + 1) rs) ≡ all
crossbar_clear xs rs i x r all h count is also none so =
    sym (ap (λ f. or_later f (crossbars_fault (drop (i + 1) xs) (drop (i + 1) rs))) none) ∙ sym (crossbar_told xs rs i x r h count is also) ∙ so

-- a refusal of the first is a refusal of all
pub crossbar_refused : (xs : List XbarDesc) (rs : List XbarRanges) (i : ℕ) (x : XbarDesc) (r : XbarRanges) (all : Option Fault) (e : DescFault) → i < length xs
    → length rs ≡ length xs → x ≡ get_or xs i x → r ≡ get_or rs i r → crossbars_fault (drop i xs) (drop i rs) ≡ all → Told e (crossbar_fault x r) → Told e all
crossbar_refused xs rs i x r all e h count is also so tells =
    told_of_part e (crossbar_fault x r) all
    (λ f one. sym so ∙ crossbar_told xs rs i x r h count is also ∙ ap (λ o. or_later o (crossbars_fault (drop (i + 1) xs) (drop (i + 1) rs))) one) tells

-- none is left
pub no_crossbar_left : (xs : List XbarDesc) (rs : List XbarRanges) (i : ℕ) → length xs ≤ i → (crossbar_texts (drop i xs) (drop i rs) ≡ []) × (crossbars_fault (drop i xs) (drop i rs) ≡ None)
no_crossbar_left xs rs i h = (ap (λ ys. crossbar_texts ys (drop i rs)) (drop_all i xs h), ap (λ ys. crossbars_fault ys (drop i rs)) (drop_all i xs h))

-- ---- blocks

block_cut : (bs : List LaidBlock) (ts : List Tree) (i : ℕ) (b : LaidBlock) (t : Tree) → i < length bs → length ts ≡ length bs → b ≡ get_or bs i b → t ≡ get_or ts i t
    → block_texts (drop i bs) (drop i ts) ≡ block.block_files t b ++ block_texts (drop (i + 1) bs) (drop (i + 1) ts)
block_cut bs ts i b t h count is also =
    ap (λ ys. block_texts ys (drop i ts)) (front bs i b h is) ∙ ap (block_texts (b ∷ drop (i + 1) bs)) (front ts i t (omega (arith, h, count)) also)

-- one block's files more are put
pub block_put : (bs : List LaidBlock) (ts : List Tree) (i : ℕ) (b : LaidBlock) (t : Tree) (before now all : List OutFile) → i < length bs
    → length ts ≡ length bs → b ≡ get_or bs i b → t ≡ get_or ts i t → now ≡ put_outputs before (block.block_files t b)
    → put_outputs before (block_texts (drop i bs) (drop i ts)) ≡ all → put_outputs now (block_texts (drop (i + 1) bs) (drop (i + 1) ts)) ≡ all
block_put bs ts i b t before now all h count is also put so =
    let rest : List OutFile = block_texts (drop (i + 1) bs) (drop (i + 1) ts) in
    ap (λ os. put_outputs os rest) put ∙ sym (put_more before (block.block_files t b) rest)
    ∙ sym (ap (put_outputs before) (block_cut bs ts i b t h count is also)) ∙ so

block_told : (bs : List LaidBlock) (ts : List Tree) (i : ℕ) (b : LaidBlock) (t : Tree) → i < length bs → length ts ≡ length bs → b ≡ get_or bs i b → t ≡ get_or ts i t
    → blocks_fault (drop i bs) (drop i ts) ≡ or_later (block_fault b t) (blocks_fault (drop (i + 1) bs) (drop (i + 1) ts))
block_told bs ts i b t h count is also =
    ap (λ ys. blocks_fault ys (drop i ts)) (front bs i b h is) ∙ ap (blocks_fault (b ∷ drop (i + 1) bs)) (front ts i t (omega (arith, h, count)) also)

pub block_clear : (bs : List LaidBlock) (ts : List Tree) (i : ℕ) (b : LaidBlock) (t : Tree) (all : Option Fault) → i < length bs → length ts ≡ length bs
    → b ≡ get_or bs i b → t ≡ get_or ts i t → block_fault b t ≡ None → blocks_fault (drop i bs) (drop i ts) ≡ all → blocks_fault (drop (i + 1) bs) (drop (i + 1) ts) ≡ all
block_clear bs ts i b t all h count is also none so =
    sym (ap (λ f. or_later f (blocks_fault (drop (i + 1) bs) (drop (i + 1) ts))) none) ∙ sym (block_told bs ts i b t h count is also) ∙ so

pub block_refused : (bs : List LaidBlock) (ts : List Tree) (i : ℕ) (b : LaidBlock) (t : Tree) (all : Option Fault) (e : DescFault) → i < length bs
    → length ts ≡ length bs → b ≡ get_or bs i b → t ≡ get_or ts i t → blocks_fault (drop i bs) (drop i ts) ≡ all → Told e (block_fault b t) → Told e all
block_refused bs ts i b t all e h count is also so tells =
    told_of_part e (block_fault b t) all
    (λ f one. sym so ∙ block_told bs ts i b t h count is also ∙ ap (λ o. or_later o (blocks_fault (drop (i + 1) bs) (drop (i + 1) ts))) one) tells

pub no_block_left : (bs : List LaidBlock) (ts : List Tree) (i : ℕ) → length bs ≤ i → (block_texts (drop i bs) (drop i ts) ≡ []) × (blocks_fault (drop i bs) (drop i ts) ≡ None)
no_block_left bs ts i h = (ap (λ ys. block_texts ys (drop i ts)) (drop_all i bs h), ap (λ ys. blocks_fault ys (drop i ts)) (drop_all i bs h))

-- a crossbar and its ranges fit
pub both_fit : (xs : List XbarDesc) (rs : List XbarRanges) (i : ℕ) (x : XbarDesc) (r : XbarRanges) → AllFit xs rs → i < length xs → length rs ≡ length xs → x ≡ get_or xs i x
    → r ≡ get_or rs i r → IsValidCrossbar x × AreRangesOf x r.ranges
both_fit xs rs i x r fit h count is also = fit i x r (item_is xs i x h is) (item_is rs i r (omega (arith, h, count)) also)

-- a block is described by its tree
pub one_described : (bs : List LaidBlock) (ts : List Tree) (i : ℕ) (b : LaidBlock) (t : Tree) → AreDescribed bs ts → i < length bs → length ts ≡ length bs → b ≡ get_or bs i b
    → t ≡ get_or ts i t → IsDescribed b t
one_described bs ts i b t are h count is also = are i b t (item_is bs i b h is) (item_is ts i t (omega (arith, h, count)) also)
