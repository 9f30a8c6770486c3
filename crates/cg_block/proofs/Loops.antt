-- One module more, of a block's interfaces.
use Rattle.std.proofs.Common.{◌≡◌, ℕ, suc, ◌+◌, ◌<◌, ◌≤◌, List, [], ◌∷◌, ◌++◌, map, length, drop, drop-cons, add-one, get_or, Option, Some, None, Result, Ok, Err, IfOk, sym, ap, ◌∙◌, subst, append_assoc, zero, arith}
use Rattle.std.proofs.lemmas.List.{drop_all, map-append}
use Rattle.cg_svspec.specs.Names.{first_repeat, module_names}
use Rattle.cg_svspec.specs.Printable.{AllOf}
use Rattle.cg_svspec.specs.Tree.{Module}
use Rattle.cg_desc.specs.declared.block.LaidBlock.{LaidBlock}
use Rattle.cg_desc.specs.declared.block.LaidFace.{LaidFace}
use Rattle.cg_sv.specs.Views.{module_of}
use Rattle.cg_sv.specs.declared.fault.SvRegFault.{SvRegFault}
use Rattle.cg_sv.specs.declared.tree.Module.{Module as Made}
use Rattle.cg_svreg.specs.Interface.{interface, interface_module}
use Rattle.cg_outputs.specs.declared.out_file.OutFile.{OutFile}
use Rattle.cg_outputs.specs.Inner.{put_output, put_outputs}
use Rattle.cg_block.specs.Unit.{module_output}
use Rattle.cg_regspec.specs.RegisterModule.{module_of_face}
use Rattle.cg_block.specs.Outputs.{or_else, first_clash}

-- the modules of the interfaces from number i on
abbrev from : LaidBlock → ℕ → List Module
from laid i = map (module_of_face laid) (drop i laid.faces)

cut : (laid : LaidBlock) (i : ℕ) → i < length laid.faces → from laid i ≡ interface_module laid i ∷ from laid (i + 1)
cut laid i h =
    let face : LaidFace = interface laid i in
    let front : drop i laid.faces ≡ face ∷ drop (i + 1) laid.faces = rw add-one (drop-cons laid.faces i (record { name = None; rows = []; size = 0 }) h) in
    ap (map (module_of_face laid)) front

-- a clash of the first of them is theirs
pub clash_here : (laid : LaidBlock) (i : ℕ) (name : List ℕ) (all : Option (List ℕ)) → i < length laid.faces → first_repeat (module_names (interface_module laid i)) ≡ Some name
    → first_clash (from laid i) ≡ all → all ≡ Some name
unfolding first_clash
clash_here laid i name all h some is = sym is ∙ ap first_clash (cut laid i h) ∙ ap (λ o. or_else o (first_clash (from laid (i + 1)))) some

-- without one, the others' clash is theirs
pub no_clash_here : (laid : LaidBlock) (i : ℕ) (all : Option (List ℕ)) → i < length laid.faces → first_repeat (module_names (interface_module laid i)) ≡ None
    → first_clash (from laid i) ≡ all → first_clash (from laid (i + 1)) ≡ all
unfolding first_clash
no_clash_here laid i all h none is = sym (ap (λ o. or_else o (first_clash (from laid (i + 1)))) none) ∙ sym (ap first_clash (cut laid i h)) ∙ is

-- one more is made
pub made_more : (laid : LaidBlock) (i : ℕ) (made : List Made) (m : Made) (all : List Module) → i < length laid.faces → module_of m ≡ interface_module laid i
    → map module_of made ++ from laid i ≡ all → map module_of (made ++ m ∷ []) ++ from laid (i + 1) ≡ all
made_more laid i made m all h is so =
    rw (map-append module_of made (m ∷ []), append_assoc (map module_of made) (module_of m ∷ []) (from laid (i + 1)), is) (ap (λ xs. map module_of made ++ xs) (sym (cut laid i h)) ∙ so)

-- all are made
pub none_left : (laid : LaidBlock) (i : ℕ) → length laid.faces ≤ i → from laid i ≡ []
none_left laid i h = ap (map (module_of_face laid)) (drop_all i laid.faces h)

-- one of all
pub one_of : {A B : Type 0} (P : B → Type 0) (f : A → B) (xs : List A) (i : ℕ) (x : A) → AllOf P (map f xs) → i < length xs → x ≡ get_or xs i x → P (f x)
one_of P f [] i x all h e = absurd (omega (arith, h))
one_of P f (y ∷ ys) zero x all h e = subst (λ z. P (f z)) (sym e) all.0
one_of P f (y ∷ ys) (suc i) x all h e = one_of P f ys i x all.1 (omega (arith, h)) e

-- one file more is put
pub one_put : (ms : List Made) (i : ℕ) (m : Made) (before now all : List OutFile) (o : OutFile) → i < length ms → m ≡ get_or ms i m → o ≡ module_output (module_of m)
    → now ≡ put_output o before → put_outputs before (map module_output (map module_of (drop i ms))) ≡ all → put_outputs now (map module_output (map module_of (drop (i + 1) ms))) ≡ all
unfolding put_outputs
one_put ms i m before now all o h e is put so =
    let front : drop i ms ≡ m ∷ drop (i + 1) ms = rw add-one (drop-cons ms i m h ∙ ap (λ y. y ∷ drop (suc i) ms) (sym e)) in
    let rest : List OutFile = map module_output (map module_of (drop (i + 1) ms)) in
    ap (λ os. put_outputs os rest) (put ∙ ap (λ d. put_output d before) is)
    ∙ sym (ap (λ xs. put_outputs before (map module_output (map module_of xs))) front) ∙ so

-- a fault that is passed on
pub same_fault : {X : Type 0} (a b : SvRegFault) → ◌≡◌ {A = Result X SvRegFault} (Err a) (Err b) → a ≡ b
same_fault a b e = cc

-- what holds of an answer holds of it in other words
pub if_ok : {X E : Type 0} (P Q : X → Type 0) (r : Result X E) → ((x : X) → P x → Q x) → IfOk r P → IfOk r Q
if_ok P Q (Ok x) up is = up x is
if_ok P Q (Err e) up is = tt
