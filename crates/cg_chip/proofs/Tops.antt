-- The texts of a top itself, as files.
use Rattle.std.proofs.Common.{◌≡◌, ℕ, List, [], ◌∷◌, ◌++◌, Option, Some, None, Result, Ok, Err, append_assoc, codes, refl, sym, ap, subst, ◌∙◌}
use Rattle.cg_desc.specs.declared.fault.DescFault.{DescFault}
use Rattle.cg_outputs.specs.Inner.{put_output, put_outputs}
use Rattle.cg_outputs.specs.declared.out_file.OutFile.{OutFile}
use Rattle.cg_topspec.specs.Clashes.{or_else}
use Rattle.cg_chip.specs.Inner.{block_texts, blocks_fault, crossbar_texts, crossbars_fault, names_fault, or_later, own_texts, texts_of, top_fault}
use Rattle.cg_chip.specs.Outputs.{completed_top, top_file, top_header, top_text}
use Rattle.cg_chip.specs.declared.chip.Chip.{Chip}
use Rattle.cg_chip.proofs.Loops.{put_more}
use Rattle.cg_chip.proofs.Telling.{Told, told_first, told_later}

-- ---- names that come twice

pub both_apart : (a b : Option (List ℕ)) → a ≡ None → b ≡ None → or_else a b ≡ None
both_apart a b first second = ap (λ o. or_else o b) first ∙ second

pub first_told : (a b : Option (List ℕ)) (name : List ℕ) → a ≡ Some name → or_else a b ≡ Some name
first_told a b name is = ap (λ o. or_else o b) is

pub second_told : (a b : Option (List ℕ)) (name : List ℕ) → a ≡ None → b ≡ Some name → or_else a b ≡ Some name
second_told a b name none is = ap (λ o. or_else o b) none ∙ is

-- ---- the top's own files

own_file : (c : Chip) (top ending bytes text : List ℕ) (o : OutFile) → c.source.merged.top.name ≡ top → text ≡ bytes → o ≡ record { name = codes "top_" ++ (top ++ ending); bytes = text }
    → o ≡ top_file c ending bytes
own_file c top ending bytes text o name same is =
    is
    ∙ ap (λ n. record { name = n; bytes = text }) (sym (append_assoc (codes "top_") top ending))
    ∙ ap (λ n. record { name = (codes "top_" ++ n) ++ ending; bytes = text }) (sym name)
    ∙ ap (λ b. record { name = (codes "top_" ++ c.source.merged.top.name) ++ ending; bytes = b }) same

-- three files that are put
pub own_put : (c : Chip) (top text header completed : List ℕ) (a b d : OutFile) (start one two three : List OutFile) → c.source.merged.top.name ≡ top → text ≡ (top_text c).bytes
    → header ≡ (top_header c).bytes → completed ≡ (completed_top c).bytes → a ≡ record { name = codes "top_" ++ (top ++ codes ".sv"); bytes = text }
    → b ≡ record { name = codes "top_" ++ (top ++ codes ".h"); bytes = header } → d ≡ record { name = codes "top_" ++ (top ++ codes ".gen.hjson"); bytes = completed }
    → start ≡ [] → one ≡ put_output a start → two ≡ put_output b one → three ≡ put_output d two → three ≡ put_outputs [] (own_texts c)
unfolding put_outputs
own_put c top text header completed a b d start one two three name is_text is_header is_completed is_a is_b is_d empty first second third =
    let x : a ≡ top_text c = own_file c top (codes ".sv") (top_text c).bytes text a name is_text is_a in
    let y : b ≡ top_header c = own_file c top (codes ".h") (top_header c).bytes header b name is_header is_b in
    let z : d ≡ completed_top c = own_file c top (codes ".gen.hjson") (completed_top c).bytes completed d name is_completed is_d in
    third ∙ ap (λ os. put_output d os) (second ∙ ap (λ os. put_output b os) (first ∙ ap (put_output a) empty ∙ ap (λ o. put_output o []) x) ∙ ap (λ o. put_output o (put_output (top_text c) [])) y)
    ∙ ap (λ o. put_output o (put_output (top_header c) (put_output (top_text c) []))) z

-- ---- all texts

pub texts_put : (c : Chip) (own crossbars all : List OutFile) → own ≡ put_outputs [] (own_texts c) → crossbars ≡ put_outputs own (crossbar_texts c.source.merged.xbars c.ranges)
    → all ≡ put_outputs crossbars (block_texts c.source.merged.blocks c.source.blocks) → all ≡ put_outputs [] (texts_of c)
unfolding texts_of
texts_put c own crossbars all is_own is_crossbars is_all =
    let xs : List OutFile = crossbar_texts c.source.merged.xbars c.ranges in
    let bs : List OutFile = block_texts c.source.merged.blocks c.source.blocks in
    is_all ∙ ap (λ os. put_outputs os bs) (is_crossbars ∙ ap (λ os. put_outputs os xs) is_own)
    ∙ sym (put_more (put_outputs [] (own_texts c)) xs bs) ∙ sym (put_more [] (own_texts c) (xs ++ bs))

-- what is told of the top's own texts, or else of the crossbars', or else of the blocks'
pub own_told : (c : Chip) (e : DescFault) → Told e (top_fault c) → Told e (names_fault c)
unfolding names_fault
own_told c e tells =
    told_first e (top_fault c) (or_later (crossbars_fault c.source.merged.xbars c.ranges) (blocks_fault c.source.merged.blocks c.source.blocks)) tells

pub crossbars_told : (c : Chip) (e : DescFault) → top_fault c ≡ None → Told e (crossbars_fault c.source.merged.xbars c.ranges) → Told e (names_fault c)
unfolding names_fault
crossbars_told c e top tells =
    told_later e (top_fault c) (or_later (crossbars_fault c.source.merged.xbars c.ranges) (blocks_fault c.source.merged.blocks c.source.blocks)) top
    (told_first e (crossbars_fault c.source.merged.xbars c.ranges) (blocks_fault c.source.merged.blocks c.source.blocks) tells)

pub blocks_told : (c : Chip) (e : DescFault) → top_fault c ≡ None → crossbars_fault c.source.merged.xbars c.ranges ≡ None
    → Told e (blocks_fault c.source.merged.blocks c.source.blocks) → Told e (names_fault c)
unfolding names_fault
blocks_told c e top crossbars tells =
    told_later e (top_fault c) (or_later (crossbars_fault c.source.merged.xbars c.ranges) (blocks_fault c.source.merged.blocks c.source.blocks)) top
    (told_later e (crossbars_fault c.source.merged.xbars c.ranges) (blocks_fault c.source.merged.blocks c.source.blocks) crossbars tells)

pub none_told_at_all : (c : Chip) → top_fault c ≡ None → crossbars_fault c.source.merged.xbars c.ranges ≡ None → blocks_fault c.source.merged.blocks c.source.blocks ≡ None → names_fault c ≡ None
unfolding names_fault
none_told_at_all c top crossbars blocks =
    ap (λ o. or_later o (or_later (crossbars_fault c.source.merged.xbars c.ranges) (blocks_fault c.source.merged.blocks c.source.blocks))) top
    ∙ ap (λ o. or_later o (blocks_fault c.source.merged.blocks c.source.blocks)) crossbars ∙ blocks
