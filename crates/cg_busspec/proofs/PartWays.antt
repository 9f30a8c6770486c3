-- How a request passes one part.
use Rattle.std.proofs.Common.{codes, ◌≡◌, ℕ, eqb, Bool, true, false, cond, arith, ◌&&◌, ◌||◌, ◌⊎◌, inl, inr, List, [], ◌∷◌, ◌++◌, map, reverse, refl, ap, sym, subst, ◌∙◌, Option, Some}
use Rattle.std.specs.Prelude.{flat_map}
use Rattle.std.specs.Str.{bytes_eq}
use Rattle.std.proofs.lemmas.Bool.{eqb-true}
use Rattle.std.proofs.lemmas.List.{reverse-reverse, reverse-append, append_assoc}
use Rattle.cg_svspec.specs.Tree.{net, expressions, Entry}
use Rattle.cg_svspec.specs.Names.{is_among, Among}
use Rattle.cg_svspec.specs.WellFormed.{Net, Declares, bare_parts, driven_nets}
use Rattle.cg_svspec.proofs.NamesLemmas.{name_is_itself, among_by_test, test_of_among}
use Rattle.cg_svspec.specs.Links.{spelled, Link, is_net, are_nets, nets_at, paired, is_link, Known, selected, passed, part_at}
use Rattle.cg_busspec.specs.Crossbar.{label_character}
use Rattle.cg_busspec.specs.CrossbarModule.{entries_if, bundle, requests, responses, fifo_instance, split_instance, join_instance}

-- ---- names in nets

-- a node's name stands in its module's nets as the walk spells it
pub label_is : (name : List ℕ) → flat_map label_character name ≡ spelled name
label_is [] = refl
label_is (c ∷ cs) = by (eqb c 46) (label_is cs) where
  by : (b : Bool) → flat_map label_character cs ≡ spelled cs → cond b (codes "__") (c ∷ []) ++ flat_map label_character cs ≡ cond b (95 ∷ 95 ∷ spelled cs) (c ∷ spelled cs)
  by true later = ap (λ z. 95 ∷ 95 ∷ z) later
  by false later = ap (λ z. c ∷ z) later

-- ---- nets at connections

-- a declared net is found
pub declared_is_net : (nets : List Net) (n : List ℕ) (w : ℕ) → Declares nets n w → is_net nets w n ≡ true
declared_is_net [] n w d = absurd d
declared_is_net (x ∷ xs) n w (inl both) = rw (both.0, both.1, name_is_itself n) (same w) where
  same : (w : ℕ) → ((eqb w w && true) || is_net xs w n) ≡ true
  same w = grind arith
declared_is_net (x ∷ xs) n w (inr d) = rw (declared_is_net xs n w d) (either (eqb x.width w && bytes_eq x.name n)) where
  either : (b : Bool) → (b || true) ≡ true
  either true = refl
  either false = refl

-- all of them
abbrev pub AllDeclared : List Net → ℕ → List (List ℕ) → Type 0
AllDeclared nets w [] = Unit {0}
AllDeclared nets w (n ∷ ns) = Declares nets n w × AllDeclared nets w ns

-- all declared nets are found
pub declared_are_nets : (nets : List Net) (w : ℕ) (ns : List (List ℕ)) → AllDeclared nets w ns → are_nets nets w ns ≡ true
declared_are_nets nets w [] d = refl
declared_are_nets nets w (n ∷ ns) d = rw (declared_is_net nets n w d.0, declared_are_nets nets w ns d.1) refl

-- the same in the reverse order
all_declared_join : (nets : List Net) (w : ℕ) (xs ys : List (List ℕ)) → AllDeclared nets w xs → AllDeclared nets w ys → AllDeclared nets w (xs ++ ys)
all_declared_join nets w [] ys a b = b
all_declared_join nets w (x ∷ xs) ys a b = (a.0, all_declared_join nets w xs ys a.1 b)

-- of nets in the reverse order
pub all_declared_reverse : (nets : List Net) (w : ℕ) (xs : List (List ℕ)) → AllDeclared nets w xs → AllDeclared nets w (reverse xs)
all_declared_reverse nets w [] a = tt
all_declared_reverse nets w (x ∷ xs) a = subst (AllDeclared nets w) (sym (reverse-append (x ∷ []) xs)) (all_declared_join nets w (reverse xs) (x ∷ []) (all_declared_reverse nets w xs a.1) (a.0, tt))

-- the nets of bare expressions
bare_back : (ns : List (List ℕ)) → bare_parts (expressions (map net ns)) ≡ Some ns
bare_back [] = refl
bare_back (n ∷ ns) = rw (bare_back ns) refl

-- and of a bundle, from the highest
pub bundle_drives : (ns : List (List ℕ)) → driven_nets (bundle ns) ≡ reverse ns
unfolding bundle
bundle_drives ns = rw (bare_back (reverse ns)) refl

-- at a bare net
pub nets_at_net : (nets : List Net) (w : ℕ) (n : List ℕ) → Declares nets n w → nets_at nets w (Some (net n)) ≡ n ∷ []
nets_at_net nets w n d = rw (declared_is_net nets n w d) refl

-- at a bundle
pub nets_at_bundle : (nets : List Net) (w : ℕ) (ns : List (List ℕ)) → AllDeclared nets w ns → nets_at nets w (Some (bundle ns)) ≡ ns
nets_at_bundle nets w ns d = rw (bundle_drives ns, declared_are_nets nets w (reverse ns) (all_declared_reverse nets w ns d)) (reverse-reverse ns)

-- no other net is at a bare net
net_alone : (nets : List Net) (w : ℕ) (n q : List ℕ) → is_among (nets_at nets w (Some (net n))) q ≡ true → q ≡ n
net_alone nets w n q = by (is_net nets w n) where
  by : (b : Bool) → is_among (cond (b && true) (n ∷ []) []) q ≡ true → q ≡ n
  by true e = here (among_by_test (n ∷ []) q e) where
    here : Among q (n ∷ []) → q ≡ n
    here (inl same) = same
    here (inr nowhere) = absurd nowhere
  by false e = cc

-- what is among nets that a test gives
among_one : (b : Bool) (xs : List (List ℕ)) (q : List ℕ) → is_among (cond b xs []) q ≡ true → is_among xs q ≡ true
among_one true xs q e = e
among_one false xs q e = cc

-- nor at a bundle
bundle_alone : (nets : List Net) (w : ℕ) (ns : List (List ℕ)) (q : List ℕ) → is_among (nets_at nets w (Some (bundle ns))) q ≡ true → Among q ns
bundle_alone nets w ns q e =
    among_by_test ns q (subst (λ z. is_among z q ≡ true) (ap reverse (bundle_drives ns) ∙ reverse-reverse ns)
    (among_one (are_nets nets w (driven_nets (bundle ns))) (reverse (driven_nets (bundle ns))) q e))

-- a test that fails
pub fails : (b : Bool) → (b ≡ true → ⊥) → b ≡ false
fails true h = absurd (h refl)
fails false h = refl

-- ---- links

-- the nets of links
pub record LinksDeclared (nets : List Net) (ls : List Link) : Type 0 where
  pub requests_are : AllDeclared nets 70 (requests ls)
  pub responses_are : AllDeclared nets 33 (responses ls)

-- links from their requests and responses
pub paired_back : (ls : List Link) → paired (requests ls) (responses ls) ≡ ls
paired_back [] = refl
paired_back (l ∷ ls) = ap (λ z. l ∷ z) (paired_back ls)

-- the test tells whether a link is one of these
pub link_is_in : (l : Link) (ls : List Link) → Among l ls → is_link l ls ≡ true
link_is_in l [] h = absurd h
link_is_in l (x ∷ xs) (inl e) = rw (← e, name_is_itself l.request, name_is_itself l.response) refl
link_is_in l (x ∷ xs) (inr h) = rw (link_is_in l xs h) (either (bytes_eq x.request l.request && bytes_eq x.response l.response)) where
  either : (b : Bool) → (b || true) ≡ true
  either true = refl
  either false = refl

-- a link's request is one of the requests
pub request_among : (l : Link) (ls : List Link) → Among l ls → Among l.request (requests ls)
request_among l [] h = absurd h
request_among l (x ∷ xs) (inl e) = inl (ap (λ z. z.request) e)
request_among l (x ∷ xs) (inr h) = inr (request_among l xs h)

-- ---- entries that do not take a request

-- over the first part that takes the request
abbrev pub through : List Net → Known → Link → List Entry → Option Link
through nets k l es = passed nets k l (part_at nets l.request es)

-- entries that leave the way to those behind them
abbrev pub Skips : List Net → Known → Link → List Entry → Type 0
Skips nets k l es = (rest : List Entry) → through nets k l (es ++ rest) ≡ through nets k l rest

-- so do lists put together
pub skips_join : (nets : List Net) (k : Known) (l : Link) (xs ys : List Entry) → Skips nets k l xs → Skips nets k l ys → Skips nets k l (xs ++ ys)
skips_join nets k l xs ys a b rest = rw (append_assoc xs ys rest, a (ys ++ rest)) (b rest)

-- entries where a test holds
pub skips_if : (nets : List Net) (k : Known) (l : Link) (b : Bool) (xs : List Entry) → (b ≡ true → Skips nets k l xs) → Skips nets k l (entries_if b xs)
skips_if nets k l true xs a = a refl
skips_if nets k l false xs a = λ rest. refl

-- and entries that are made number by number
pub skips_flat : (nets : List Net) (k : Known) (l : Link) (f : ℕ → List Entry) (is : List ℕ) → ((i : ℕ) → Among i is → Skips nets k l (f i)) → Skips nets k l (flat_map f is)
skips_flat nets k l f [] a = λ rest. refl
skips_flat nets k l f (i ∷ is) a = skips_join nets k l (f i) (flat_map f is) (a i (inl refl)) (skips_flat nets k l f is (λ j h. a j (inr h)))

-- a number is itself
not_itself : (j : ℕ) → eqb j j ≡ false → ⊥
not_itself j e = grind arith

-- through the entries of one number, where those of the others skip
pub through_flat : (nets : List Net) (k : Known) (l : Link) (f : ℕ → List Entry) (is : List ℕ) (i : ℕ) (r : Option Link) → Among i is
    → ((j : ℕ) → Among j is → (j ≡ i → ⊥) → Skips nets k l (f j)) → ((rest : List Entry) → through nets k l (f i ++ rest) ≡ r)
    → (rest : List Entry) → through nets k l (flat_map f is ++ rest) ≡ r
through_flat nets k l f [] i r h others here rest = absurd h
through_flat nets k l f (j ∷ js) i r h others here rest =
    rw (append_assoc (f j) (flat_map f js) rest) (by (λ g. through_flat nets k l f js i r g (λ m g. others m (inr g)) here rest) (eqb j i) refl h) where
      other : eqb j i ≡ false → j ≡ i → ⊥
      other e same = not_itself j (subst (λ z. eqb j z ≡ false) (sym same) e)

      by : (Among i js → through nets k l (flat_map f js ++ rest) ≡ r) → (b : Bool) → eqb j i ≡ b → Among i (j ∷ js) → through nets k l (f j ++ (flat_map f js ++ rest)) ≡ r
      by later true e h = rw (eqb-true j i e) (here (flat_map f js ++ rest))
      by later false e (inl same) = absurd (other e (sym same))
      by later false e (inr h) = others j (inl refl) (other e) (flat_map f js ++ rest) ∙ later h

-- ---- the three kinds of parts

-- the FIFO
pub fifo_skips : (nets : List Net) (k : Known) (l : Link) (name near far : List ℕ) (a b : Link) → (l.request ≡ a.request → ⊥) → Skips nets k l (fifo_instance name near far a b ∷ [])
unfolding fifo_instance
fifo_skips nets k l name near far a b other rest =
    let no : is_among (nets_at nets 70 (Some (net a.request))) l.request ≡ false = fails _ (λ e. other (net_alone nets 70 a.request l.request e)) in
    rw no refl

-- over the FIFO that takes the request
pub fifo_goes : (nets : List Net) (k : Known) (name near far : List ℕ) (a b : Link) → LinksDeclared nets (a ∷ []) → LinksDeclared nets (b ∷ [])
    → (rest : List Entry) → through nets k a (fifo_instance name near far a b ∷ rest) ≡ Some b
unfolding fifo_instance
fifo_goes nets k name near far a b da db rest =
    rw (nets_at_net nets 70 a.request da.requests_are.0, name_is_itself a.request, nets_at_net nets 70 a.request da.requests_are.0, nets_at_net nets 33 a.response da.responses_are.0, nets_at_net nets 70 b.request db.requests_are.0, nets_at_net nets 33 b.response db.responses_are.0, name_is_itself a.request, name_is_itself a.response) refl

-- the 1-to-N socket
pub split_skips : (nets : List Net) (k : Known) (l : Link) (name clock s : List ℕ) (a : Link) (bs : List Link) → (l.request ≡ a.request → ⊥) → Skips nets k l (split_instance name clock s a bs ∷ [])
unfolding split_instance
split_skips nets k l name clock s a bs other rest =
    let no : is_among (nets_at nets 70 (Some (net a.request))) l.request ≡ false = fails _ (λ e. other (net_alone nets 70 a.request l.request e)) in
    rw no refl

-- over the 1-to-N socket that takes it
pub split_goes : (nets : List Net) (k : Known) (name clock s : List ℕ) (a : Link) (bs : List Link) → LinksDeclared nets (a ∷ []) → LinksDeclared nets bs
    → (rest : List Entry) → through nets k a (split_instance name clock s a bs ∷ rest) ≡ selected k (Some (net s)) bs
unfolding split_instance
split_goes nets k name clock s a bs da db rest =
    rw (nets_at_net nets 70 a.request da.requests_are.0, name_is_itself a.request, nets_at_net nets 70 a.request da.requests_are.0, nets_at_net nets 33 a.response da.responses_are.0, nets_at_bundle nets 70 (requests bs) db.requests_are, nets_at_bundle nets 33 (responses bs) db.responses_are, name_is_itself a.request, name_is_itself a.response, paired_back bs) refl

-- the M-to-1 socket
pub join_skips : (nets : List Net) (k : Known) (l : Link) (name clock : List ℕ) (ls : List Link) (b : Link) → (Among l.request (requests ls) → ⊥) → Skips nets k l (join_instance name clock ls b ∷ [])
unfolding join_instance
join_skips nets k l name clock ls b other rest =
    let no : is_among (nets_at nets 70 (Some (bundle (requests ls)))) l.request ≡ false = fails _ (λ e. other (bundle_alone nets 70 (requests ls) l.request e)) in
    rw no refl

-- over the M-to-1 socket that takes it
pub join_goes : (nets : List Net) (k : Known) (l : Link) (name clock : List ℕ) (ls : List Link) (b : Link) → Among l ls → LinksDeclared nets ls → LinksDeclared nets (b ∷ [])
    → (rest : List Entry) → through nets k l (join_instance name clock ls b ∷ rest) ≡ Some b
unfolding join_instance
join_goes nets k l name clock ls b here da db rest =
    rw (nets_at_bundle nets 70 (requests ls) da.requests_are, test_of_among (requests ls) l.request (request_among l ls here), nets_at_bundle nets 70 (requests ls) da.requests_are, nets_at_bundle nets 33 (responses ls) da.responses_are, nets_at_net nets 70 b.request db.requests_are.0, nets_at_net nets 33 b.response db.responses_are.0, paired_back ls, link_is_in l ls here) refl
