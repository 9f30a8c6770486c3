-- What the store holds behind the builds of a session.
use Rattle.std.proofs.Common.{◌≡◌, ◌≢◌, inl, inr, ℕ, Bool, true, false, cond, not, ◌&&◌, ◌||◌, List, [], ◌∷◌, ◌++◌, map, Option, Some, None, refl, ap, sym, subst, ◌∙◌}
use Rattle.std.specs.List.{filter}
use Rattle.std.specs.Str.{bytes_eq}
use Rattle.std.specs.FinMap as fin
use Rattle.std.specs.Ordering.{nat_cmp, eq_by_cmp, is_eq}
use Rattle.std.specs.Cmp.Lexicographic.{slice_cmp}
use Rattle.std.specs.Cmp.{eq_by_cmp_equiv}
use Rattle.std.specs.declared.cmp.Ordering.TheVariants.{Less, Equal, Greater}
use Rattle.std.proofs.lemmas.Cmp.{nat_list_cmp_total}
use Rattle.std.proofs.lemmas.Slice.Eq.{bytes_eq-Decides}
use Rattle.cg_base.specs.Outside.{Files}
use Rattle.cg_svspec.specs.Names.{Among}
use Rattle.cg_svspec.proofs.NamesLemmas.{among_front, among_back}
use Rattle.cg_svspec.proofs.Runs.{or_false_left, or_false_right}
use Rattle.cg_outputs.specs.Outputs.{NamesDiffer}
use Rattle.cg_outputs.specs.declared.out_file.OutFile.{OutFile}
use Rattle.cg_deeds.specs.Deeds.{Contents, after_deed, after_deeds}
use Rattle.cg_deeds.specs.declared.deed.Deed.{Deed}
use Rattle.cg_deeds.specs.declared.deed.Deed.TheVariants.{Write, Remove, Say}
use Rattle.cg_deeds.specs.declared.deed.Stream.TheVariants as stream
use Rattle.cg_session.specs.Holding.{IsOutputName}
use Rattle.cg_session.specs.Play.{has_name, has_output, removal_of, write_of}

-- ---- names

pub same_names : (a b : List ℕ) → bytes_eq a b ≡ true → a ≡ b
same_names a b h = (bytes_eq-Decides a b).0 h

pub own_name : (a : List ℕ) → bytes_eq a a ≡ true
own_name a = (bytes_eq-Decides a a).1 refl

-- names that differ fail the test
other_name : (a b : List ℕ) → ¬ (a ≡ b) → bytes_eq a b ≡ false
other_name a b differ = go (bytes_eq a b) refl
  where
    go : (r : Bool) → bytes_eq a b ≡ r → r ≡ false
    go false e = refl
    go true e = absurd (differ (same_names a b e))

-- the order's test is that of the bytes
order_apart : (q name : List ℕ) → q ≢ name → eq_by_cmp (slice_cmp nat_cmp) q name ≡ false
order_apart q name apart =
    elim (slice_cmp nat_cmp q name) as (λ o. slice_cmp nat_cmp q name ≡ o → is_eq o ≡ false) [
      | Less ↦ λ e. refl
      | Equal ↦ λ e. absurd (apart (fin.slice_cmp-IsAntisymmetric fin.nat_cmp-IsAntisymmetric q name e))
      | Greater ↦ λ e. refl
    ] refl

order_test : (name q : List ℕ) → eq_by_cmp (slice_cmp nat_cmp) q name ≡ bytes_eq name q
order_test name q = go (bytes_eq name q) refl
  where
    go : (b : Bool) → bytes_eq name q ≡ b → eq_by_cmp (slice_cmp nat_cmp) q name ≡ b
    go true e = let same = same_names name q e in subst (λ n. eq_by_cmp (slice_cmp nat_cmp) q n ≡ true) (sym same) ((eq_by_cmp_equiv nat_list_cmp_total).refl q)
    go false e = order_apart q name (λ same. let bad : true ≡ false = sym (own_name name) ∙ ap (bytes_eq name) (sym same) ∙ e in cc)

-- ---- what deeds make of what stands at a name

unfoldable pub effect : List Deed → List ℕ → Option (List ℕ) → Option (List ℕ)
effect [] q v = v
effect (Write n b ∷ ds) q v = effect ds q (cond (bytes_eq n q) (Some b) v)
effect (Remove n ∷ ds) q v = effect ds q (cond (bytes_eq n q) None v)
effect (Say s l ∷ ds) q v = effect ds q v

-- the files behind deeds, where they are told
unfoldable pub told : List Deed → Files → Files
told [] m = m
told (Write n b ∷ ds) m = told ds (fin.insert m n b)
told (Remove n ∷ ds) m = told ds (fin.remove m n)
told (Say s l ∷ ds) m = told ds m

pub told_is : (ds : List Deed) (c : Contents) (m : Files) → c.files ≡ Some m → (after_deeds ds c).files ≡ Some (told ds m)
unfolding told
told_is [] c m e = e
told_is (Write n b ∷ ds) c m e = told_is ds (after_deed (Write n b) c) (fin.insert m n b) (ap (λ f. after_write f) e)
  where
    after_write : Option Files → Option Files
    after_write f = (after_deed (Write n b) (record { files = f; out = c.out; err = c.err })).files
told_is (Remove n ∷ ds) c m e = told_is ds (after_deed (Remove n) c) (fin.remove m n) (ap (λ f. after_removal f) e)
  where
    after_removal : Option Files → Option Files
    after_removal f = (after_deed (Remove n) (record { files = f; out = c.out; err = c.err })).files
told_is (Say stream.Out l ∷ ds) c m e = told_is ds (after_deed (Say stream.Out l) c) m e
told_is (Say stream.Err l ∷ ds) c m e = told_is ds (after_deed (Say stream.Err l) c) m e

pub told_behind : (ds es : List Deed) (m : Files) → told (ds ++ es) m ≡ told es (told ds m)
unfolding told
told_behind [] es m = refl
told_behind (Write n b ∷ ds) es m = told_behind ds es (fin.insert m n b)
told_behind (Remove n ∷ ds) es m = told_behind ds es (fin.remove m n)
told_behind (Say s l ∷ ds) es m = told_behind ds es m

pub told_at : (ds : List Deed) (m : Files) (q : List ℕ) → fin.get (told ds m) q ≡ effect ds q (fin.get m q)
unfolding told effect
told_at [] m q = refl
told_at (Write n b ∷ ds) m q =
    told_at ds (fin.insert m n b) q ∙ ap (effect ds q) (fin.get-insert nat_list_cmp_total m n b q ∙ ap (λ t. cond t (Some b) (fin.get m q)) (order_test n q))
told_at (Remove n ∷ ds) m q =
    told_at ds (fin.remove m n) q ∙ ap (effect ds q) (fin.get-remove nat_list_cmp_total m n q ∙ ap (λ t. cond t None (fin.get m q)) (order_test n q))
told_at (Say s l ∷ ds) m q = told_at ds m q

pub effect_behind : (ds es : List Deed) (q : List ℕ) (v : Option (List ℕ)) → effect (ds ++ es) q v ≡ effect es q (effect ds q v)
unfolding effect
effect_behind [] es q v = refl
effect_behind (Write n b ∷ ds) es q v = effect_behind ds es q (cond (bytes_eq n q) (Some b) v)
effect_behind (Remove n ∷ ds) es q v = effect_behind ds es q (cond (bytes_eq n q) None v)
effect_behind (Say s l ∷ ds) es q v = effect_behind ds es q v

-- ---- outputs and their names

-- whether an output has the name
pub named_is : (os : List OutFile) (q : List ℕ) → has_name os q ≡ true → IsOutputName os q
named_is [] q h = cc
named_is (o ∷ os) q h = go (bytes_eq o.name q) refl h (named_is os q)
  where
    go : (b : Bool) → bytes_eq o.name q ≡ b → (b || has_name os q) ≡ true → (has_name os q ≡ true → IsOutputName os q) → IsOutputName (o ∷ os) q
    go true e h more = record { output = o; among = inl refl; is = sym (same_names o.name q e) }
    go false e h more = let r = more h in record { output = r.output; among = inr r.among; is = r.is }

pub is_named : (os : List OutFile) (o : OutFile) → Among o os → has_name os o.name ≡ true
is_named [] o i = absurd i
is_named (p ∷ os) o (inl e) = ap (λ b. b || has_name os o.name) (ap (λ (x : OutFile). bytes_eq x.name o.name) (sym e) ∙ own_name o.name)
is_named (p ∷ os) o (inr i) = go (bytes_eq p.name o.name) (is_named os o i)
  where
    go : (b : Bool) → has_name os o.name ≡ true → (b || has_name os o.name) ≡ true
    go true k = refl
    go false k = k

pub not_named : (os : List OutFile) (q : List ℕ) → ¬ IsOutputName os q → has_name os q ≡ false
not_named os q h = go (has_name os q) refl
  where
    go : (b : Bool) → has_name os q ≡ b → b ≡ false
    go false e = refl
    go true e = absurd (h (named_is os q e))

-- one that has none of the names has not this one
pub lacks_one : (os : List OutFile) (q : List ℕ) (o : OutFile) → has_name os q ≡ false → Among o os → bytes_eq o.name q ≡ false
lacks_one [] q o h i = absurd i
lacks_one (p ∷ os) q o h (inl e) = ap (λ (x : OutFile). bytes_eq x.name q) e ∙ or_false_left (bytes_eq p.name q) (has_name os q) h
lacks_one (p ∷ os) q o h (inr i) = lacks_one os q o (or_false_right (bytes_eq p.name q) (has_name os q) h) i

-- ---- writes

-- none of them at a name that none of the outputs has
pub no_write : (t : OutFile → Bool) (os : List OutFile) (q : List ℕ) (v : Option (List ℕ)) → has_name os q ≡ false → effect (map write_of (filter t os)) q v ≡ v
unfolding effect
no_write t [] q v h = refl
no_write t (o ∷ os) q v h = go (t o) (or_false_left (bytes_eq o.name q) (has_name os q) h) (λ w. no_write t os q w (or_false_right (bytes_eq o.name q) (has_name os q) h))
  where
    go : (b : Bool) → bytes_eq o.name q ≡ false → ((w : Option (List ℕ)) → effect (map write_of (filter t os)) q w ≡ w) → effect (map write_of (cond b (o ∷ filter t os) (filter t os))) q v ≡ v
    go true e k = k (cond (bytes_eq o.name q) (Some o.bytes) v) ∙ ap (λ c. cond c (Some o.bytes) v) e
    go false e k = k v

-- an output has none of the names of others that differ from it
differs : (o : OutFile) (os : List OutFile) → ((p : OutFile) → Among p os → ¬ (o.name ≡ p.name)) → has_name os o.name ≡ false
differs o os h = not_named os o.name (λ n. h n.output n.among n.is)

-- at the name of one of them
pub one_write : (t : OutFile → Bool) (os : List OutFile) (o : OutFile) (v : Option (List ℕ)) → NamesDiffer os → Among o os → effect (map write_of (filter t os)) o.name v ≡ cond (t o) (Some o.bytes) v
unfolding effect
one_write t [] o v a i = absurd i
one_write t (p ∷ os) o v a (inl e) =
    subst (λ (x : OutFile). effect (map write_of (cond (t p) (p ∷ filter t os) (filter t os))) x.name v ≡ cond (t x) (Some x.bytes) v) (sym e) (go (t p) (λ w. no_write t os p.name w (differs p os a.0)))
  where
    go : (b : Bool) → ((w : Option (List ℕ)) → effect (map write_of (filter t os)) p.name w ≡ w) → effect (map write_of (cond b (p ∷ filter t os) (filter t os))) p.name v ≡ cond b (Some p.bytes) v
    go true k = k (cond (bytes_eq p.name p.name) (Some p.bytes) v) ∙ ap (λ c. cond c (Some p.bytes) v) (own_name p.name)
    go false k = k v
one_write t (p ∷ os) o v a (inr i) = go (t p) (other_name p.name o.name (a.0 o i)) (λ w. one_write t os o w a.1 i)
  where
    go : (b : Bool) → bytes_eq p.name o.name ≡ false → ((w : Option (List ℕ)) → effect (map write_of (filter t os)) o.name w ≡ cond (t o) (Some o.bytes) w)
        → effect (map write_of (cond b (p ∷ filter t os) (filter t os))) o.name v ≡ cond (t o) (Some o.bytes) v
    go true e k = k (cond (bytes_eq p.name o.name) (Some p.bytes) v) ∙ ap (λ c. cond (t o) (Some o.bytes) (cond c (Some p.bytes) v)) e
    go false e k = k v

-- ---- removals

pub none_stays : (t : OutFile → Bool) (os : List OutFile) (q : List ℕ) → effect (map removal_of (filter t os)) q None ≡ None
unfolding effect
none_stays t [] q = refl
none_stays t (o ∷ os) q = go (t o) (bytes_eq o.name q) (none_stays t os q) refl
  where
    go : (b d : Bool) → effect (map removal_of (filter t os)) q None ≡ None → bytes_eq o.name q ≡ d → effect (map removal_of (cond b (o ∷ filter t os) (filter t os))) q None ≡ None
    go true true k e = ap (λ c. effect (map removal_of (filter t os)) q (cond c None None)) e ∙ k
    go true false k e = ap (λ c. effect (map removal_of (filter t os)) q (cond c None None)) e ∙ k
    go false d k e = k

-- none of them at a name that no removed output has
pub no_removal : (t : OutFile → Bool) (os : List OutFile) (q : List ℕ) (v : Option (List ℕ)) → ((o : OutFile) → Among o os → t o ≡ true → bytes_eq o.name q ≡ false) → effect (map removal_of (filter t os)) q v ≡ v
unfolding effect
no_removal t [] q v h = refl
no_removal t (o ∷ os) q v h = go (t o) refl (λ w. no_removal t os q w (λ p i. h p (inr i)))
  where
    go : (b : Bool) → t o ≡ b → ((w : Option (List ℕ)) → effect (map removal_of (filter t os)) q w ≡ w) → effect (map removal_of (cond b (o ∷ filter t os) (filter t os))) q v ≡ v
    go true e k = k (cond (bytes_eq o.name q) None v) ∙ ap (λ c. cond c None v) (h o (inl refl) e)
    go false e k = k v

-- all with the name are removed
pub all_removed : (t : OutFile → Bool) (os : List OutFile) (q : List ℕ) (v : Option (List ℕ)) → has_name os q ≡ true → ((o : OutFile) → bytes_eq o.name q ≡ true → t o ≡ true) → effect (map removal_of (filter t os)) q v ≡ None
unfolding effect
all_removed t [] q v h k = cc
all_removed t (o ∷ os) q v h k = go (t o) (bytes_eq o.name q) refl refl h (λ w n. all_removed t os q w n k)
  where
    go : (b d : Bool) → t o ≡ b → bytes_eq o.name q ≡ d → (d || has_name os q) ≡ true → ((w : Option (List ℕ)) → has_name os q ≡ true → effect (map removal_of (filter t os)) q w ≡ None)
        → effect (map removal_of (cond b (o ∷ filter t os) (filter t os))) q v ≡ None
    go true true x y n r = ap (λ c. effect (map removal_of (filter t os)) q (cond c None v)) y ∙ none_stays t os q
    go true false x y n r = ap (λ c. effect (map removal_of (filter t os)) q (cond c None v)) y ∙ r v n
    go false true x y n r = let bad : false ≡ true = sym x ∙ k o y in cc
    go false false x y n r = r v n

-- ---- what was held before

pub held_before : (m : Files) (last : List OutFile) (o : OutFile) → has_output last o ≡ true → ((p : OutFile) → Among p last → fin.get m p.name ≡ Some p.bytes) → fin.get m o.name ≡ Some o.bytes
held_before m [] o h k = cc
held_before m (p ∷ last) o h k = go (bytes_eq p.name o.name) (bytes_eq p.bytes o.bytes) refl refl h (λ r. held_before m last o r (λ x i. k x (inr i)))
  where
    go : (a b : Bool) → bytes_eq p.name o.name ≡ a → bytes_eq p.bytes o.bytes ≡ b → ((a && b) || has_output last o) ≡ true → (has_output last o ≡ true → fin.get m o.name ≡ Some o.bytes) → fin.get m o.name ≡ Some o.bytes
    go true true x y r more = ap (fin.get m) (sym (same_names p.name o.name x)) ∙ k p (inl refl) ∙ ap Some (same_names p.bytes o.bytes y)
    go true false x y r more = more r
    go false b x y r more = more r

-- an output that stood there before has the name of one
pub output_named : (last : List OutFile) (o : OutFile) → has_output last o ≡ true → IsOutputName last o.name
output_named [] o h = cc
output_named (p ∷ last) o h = go (bytes_eq p.name o.name) (bytes_eq p.bytes o.bytes) refl h (output_named last o)
  where
    go : (a b : Bool) → bytes_eq p.name o.name ≡ a → ((a && b) || has_output last o) ≡ true → (has_output last o ≡ true → IsOutputName last o.name) → IsOutputName (p ∷ last) o.name
    go true true x r more = record { output = p; among = inl refl; is = sym (same_names p.name o.name x) }
    go true false x r more = let m = more r in record { output = m.output; among = inr m.among; is = m.is }
    go false b x r more = let m = more r in record { output = m.output; among = inr m.among; is = m.is }

pub not_true : (b : Bool) → not b ≡ true → b ≡ false
not_true true h = cc
not_true false h = refl

-- ---- names that differ, in parts

pub differ_front : (xs ys : List OutFile) → NamesDiffer (xs ++ ys) → NamesDiffer xs
differ_front [] ys d = tt
differ_front (x ∷ xs) ys d = ((λ p i. d.0 p (among_front p xs ys i)), differ_front xs ys d.1)

pub differ_back : (xs ys : List OutFile) → NamesDiffer (xs ++ ys) → NamesDiffer ys
differ_back [] ys d = d
differ_back (x ∷ xs) ys d = differ_back xs ys d.1

pub differ_across : (xs ys : List OutFile) (o : OutFile) → NamesDiffer (xs ++ ys) → Among o xs → has_name ys o.name ≡ false
differ_across [] ys o d i = absurd i
differ_across (x ∷ xs) ys o d (inl e) = ap (λ (p : OutFile). has_name ys p.name) e ∙ differs x ys (λ p i. d.0 p (among_back p xs ys i))
differ_across (x ∷ xs) ys o d (inr i) = differ_across xs ys o d.1 i

pub differ_across_back : (xs ys : List OutFile) (o : OutFile) → NamesDiffer (xs ++ ys) → Among o ys → has_name xs o.name ≡ false
differ_across_back [] ys o d i = refl
differ_across_back (x ∷ xs) ys o d i =
    let here = other_name x.name o.name (d.0 o (among_back o xs ys i)) in
    ap (λ b. b || has_name xs o.name) here ∙ differ_across_back xs ys o d.1 i
