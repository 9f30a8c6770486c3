-- Lists that are made number by number.
use Rattle.std.proofs.Common.{◌≡◌, ℕ, Bool, true, false, cond, ◌⊎◌, inl, inr, List, [], ◌∷◌, ◌++◌, refl, ap, sym, subst, ◌∙◌}
use Rattle.std.specs.Prelude.{flat_map}
use Rattle.cg_svspec.specs.Tree.{Port, Entry, wire, drive, assign, inst}
use Rattle.cg_svspec.specs.Names.{Among, Differ, port_names, entry_names}
use Rattle.cg_svspec.specs.WellFormed.{Net, Declares, port_nets, inputs_of, outputs_of}
use Rattle.cg_svspec.proofs.NamesLemmas.{among_front, among_back, differ_front, differ_back, differ_across}
use Rattle.cg_svspec.specs.Links.{wire_nets}

-- a member of one number's list is one of all
pub among_flat : {A : Type 0} (f : ℕ → List A) (is : List ℕ) (i : ℕ) (n : A) → Among i is → Among n (f i) → Among n (flat_map f is)
among_flat f [] i n h a = absurd h
among_flat f (j ∷ js) i n (inl e) a = among_front n (f j) (flat_map f js) (subst (λ z. Among n (f z)) e a)
among_flat f (j ∷ js) i n (inr h) a = among_back n (f j) (flat_map f js) (among_flat f js i n h a)

-- where no name stands twice, a name is of one number
pub owner : (f : ℕ → List (List ℕ)) (is : List ℕ) → Differ (flat_map f is) → (i j : ℕ) (n : List ℕ) → Among i is → Among j is → Among n (f i) → Among n (f j) → i ≡ j
owner f [] d i j n h g a b = absurd h
owner f (k ∷ ks) d i j n (inl e) (inl s) a b = e ∙ sym s
owner f (k ∷ ks) d i j n (inl e) (inr g) a b = absurd (differ_across n (f k) (flat_map f ks) d (subst (λ z. Among n (f z)) e a) (among_flat f ks j n g b))
owner f (k ∷ ks) d i j n (inr h) (inl s) a b = absurd (differ_across n (f k) (flat_map f ks) d (subst (λ z. Among n (f z)) s b) (among_flat f ks i n h a))
owner f (k ∷ ks) d i j n (inr h) (inr g) a b = owner f ks (differ_back (f k) (flat_map f ks) d) i j n h g a b

-- nor does one in the list of one number
pub inner_differ : (f : ℕ → List (List ℕ)) (is : List ℕ) → Differ (flat_map f is) → (i : ℕ) → Among i is → Differ (f i)
inner_differ f [] d i h = absurd h
inner_differ f (k ∷ ks) d i (inl e) = subst (λ z. Differ (f z)) (sym e) (differ_front (f k) (flat_map f ks) d)
inner_differ f (k ∷ ks) d i (inr h) = inner_differ f ks (differ_back (f k) (flat_map f ks) d) i h

-- ---- names of ports and entries

-- of lists put together
pub port_names_join : (xs ys : List Port) → port_names (xs ++ ys) ≡ port_names xs ++ port_names ys
port_names_join [] ys = refl
port_names_join (x ∷ xs) ys = ap (λ z. x.name ∷ z) (port_names_join xs ys)

-- of lists that are made number by number
pub port_names_flat : (f : ℕ → List Port) (is : List ℕ) → port_names (flat_map f is) ≡ flat_map (λ i. port_names (f i)) is
port_names_flat f [] = refl
port_names_flat f (i ∷ is) = port_names_join (f i) (flat_map f is) ∙ ap (λ z. port_names (f i) ++ z) (port_names_flat f is)

-- of entries put together
pub entry_names_join : (xs ys : List Entry) → entry_names (xs ++ ys) ≡ entry_names xs ++ entry_names ys
entry_names_join [] ys = refl
entry_names_join (wire w n ∷ xs) ys = ap (λ z. n ∷ z) (entry_names_join xs ys)
entry_names_join (drive w n e ∷ xs) ys = ap (λ z. n ∷ z) (entry_names_join xs ys)
entry_names_join (assign n e ∷ xs) ys = entry_names_join xs ys
entry_names_join (inst m ps n cs ∷ xs) ys = ap (λ z. n ∷ z) (entry_names_join xs ys)

-- of entries that are made number by number
pub entry_names_flat : (f : ℕ → List Entry) (is : List ℕ) → entry_names (flat_map f is) ≡ flat_map (λ i. entry_names (f i)) is
entry_names_flat f [] = refl
entry_names_flat f (i ∷ is) = entry_names_join (f i) (flat_map f is) ∙ ap (λ z. entry_names (f i) ++ z) (entry_names_flat f is)

-- ---- inputs and outputs

-- inputs of lists put together
pub inputs_join : (xs ys : List Port) → inputs_of (xs ++ ys) ≡ inputs_of xs ++ inputs_of ys
inputs_join [] ys = refl
inputs_join (x ∷ xs) ys = rw (inputs_join xs ys) (by x.input) where
  by : (b : Bool) → cond b (x.name ∷ (inputs_of xs ++ inputs_of ys)) (inputs_of xs ++ inputs_of ys) ≡ cond b (x.name ∷ inputs_of xs) (inputs_of xs) ++ inputs_of ys
  by true = refl
  by false = refl

-- and outputs
pub outputs_join : (xs ys : List Port) → outputs_of (xs ++ ys) ≡ outputs_of xs ++ outputs_of ys
outputs_join [] ys = refl
outputs_join (x ∷ xs) ys = rw (outputs_join xs ys) (by x.input) where
  by : (b : Bool) → cond b (outputs_of xs ++ outputs_of ys) (x.name ∷ (outputs_of xs ++ outputs_of ys)) ≡ cond b (outputs_of xs) (x.name ∷ outputs_of xs) ++ outputs_of ys
  by true = refl
  by false = refl

-- an output is a port
pub output_is_port : (ps : List Port) (n : List ℕ) → Among n (outputs_of ps) → Among n (port_names ps)
output_is_port [] n a = a
output_is_port (p ∷ ps) n a = by (output_is_port ps n) p.input a where
  by : (Among n (outputs_of ps) → Among n (port_names ps)) → (b : Bool) → Among n (cond b (outputs_of ps) (p.name ∷ outputs_of ps)) → Among n (port_names (p ∷ ps))
  by rest true a = inr (rest a)
  by rest false (inl e) = inl e
  by rest false (inr a) = inr (rest a)

-- an input is a port
pub input_is_port : (ps : List Port) (n : List ℕ) → Among n (inputs_of ps) → Among n (port_names ps)
input_is_port [] n a = a
input_is_port (p ∷ ps) n a = by (input_is_port ps n) p.input a where
  by : (Among n (inputs_of ps) → Among n (port_names ps)) → (b : Bool) → Among n (cond b (p.name ∷ inputs_of ps) (inputs_of ps)) → Among n (port_names (p ∷ ps))
  by rest false a = inr (rest a)
  by rest true (inl e) = inl e
  by rest true (inr a) = inr (rest a)

-- no input is an output
pub input_no_output : (ps : List Port) (n : List ℕ) → Differ (port_names ps) → Among n (inputs_of ps) → Among n (outputs_of ps) → ⊥
input_no_output [] n d a b = a
input_no_output (p ∷ ps) n d a b = by (input_no_output ps n d.1) p.input a b where
  by : (Among n (inputs_of ps) → Among n (outputs_of ps) → ⊥) → (t : Bool) → Among n (cond t (p.name ∷ inputs_of ps) (inputs_of ps)) → Among n (cond t (outputs_of ps) (p.name ∷ outputs_of ps)) → ⊥
  by later true (inl e) b = d.0 (subst (λ z. Among z (port_names ps)) e (output_is_port ps n b))
  by later true (inr a) b = later a b
  by later false a (inl e) = d.0 (subst (λ z. Among z (port_names ps)) e (input_is_port ps n a))
  by later false a (inr b) = later a b

-- ---- ports

-- it is declared
pub port_declared : (p : Port) (ps : List Port) (others : List Net) → Among p ps → Declares (port_nets ps ++ others) p.name p.width
port_declared p [] others h = absurd h
port_declared p (q ∷ qs) others (inl e) = inl (ap (λ z. z.name) (sym e), ap (λ z. z.width) (sym e))
port_declared p (q ∷ qs) others (inr h) = inr (port_declared p qs others h)

-- ---- wires

-- the wire is one of these entries
abbrev pub WireIn : ℕ → List ℕ → List Entry → Type 0
WireIn w n [] = ⊥
WireIn w n (wire u m ∷ es) = ((u ≡ w) × (m ≡ n)) ⊎ WireIn w n es
WireIn w n (drive u m x ∷ es) = WireIn w n es
WireIn w n (assign m x ∷ es) = WireIn w n es
WireIn w n (inst m ps k cs ∷ es) = WireIn w n es

-- a wire of the first entries
pub wire_front : (w : ℕ) (n : List ℕ) (xs ys : List Entry) → WireIn w n xs → WireIn w n (xs ++ ys)
wire_front w n [] ys h = absurd h
wire_front w n (wire u m ∷ xs) ys (inl e) = inl e
wire_front w n (wire u m ∷ xs) ys (inr h) = inr (wire_front w n xs ys h)
wire_front w n (drive u m x ∷ xs) ys h = wire_front w n xs ys h
wire_front w n (assign m x ∷ xs) ys h = wire_front w n xs ys h
wire_front w n (inst m ps k cs ∷ xs) ys h = wire_front w n xs ys h

-- of the last
pub wire_back : (w : ℕ) (n : List ℕ) (xs ys : List Entry) → WireIn w n ys → WireIn w n (xs ++ ys)
wire_back w n [] ys h = h
wire_back w n (wire u m ∷ xs) ys h = inr (wire_back w n xs ys h)
wire_back w n (drive u m x ∷ xs) ys h = wire_back w n xs ys h
wire_back w n (assign m x ∷ xs) ys h = wire_back w n xs ys h
wire_back w n (inst m ps k cs ∷ xs) ys h = wire_back w n xs ys h

-- of entries that are made number by number
pub wire_flat : (f : ℕ → List Entry) (is : List ℕ) (i w : ℕ) (n : List ℕ) → Among i is → WireIn w n (f i) → WireIn w n (flat_map f is)
wire_flat f [] i w n h a = absurd h
wire_flat f (j ∷ js) i w n (inl e) a = wire_front w n (f j) (flat_map f js) (subst (λ z. WireIn w n (f z)) e a)
wire_flat f (j ∷ js) i w n (inr h) a = wire_back w n (f j) (flat_map f js) (wire_flat f js i w n h a)

-- it is declared
pub wire_declared : (w : ℕ) (n : List ℕ) (es : List Entry) → WireIn w n es → Declares (wire_nets es) n w
wire_declared w n [] h = absurd h
wire_declared w n (wire u m ∷ es) (inl e) = inl (e.1, e.0)
wire_declared w n (wire u m ∷ es) (inr h) = inr (wire_declared w n es h)
wire_declared w n (drive u m x ∷ es) h = inr (wire_declared w n es h)
wire_declared w n (assign m x ∷ es) h = wire_declared w n es h
wire_declared w n (inst m ps k cs ∷ es) h = wire_declared w n es h

-- declared further down
pub declares_back : (xs ys : List Net) (n : List ℕ) (w : ℕ) → Declares ys n w → Declares (xs ++ ys) n w
declares_back [] ys n w d = d
declares_back (x ∷ xs) ys n w d = inr (declares_back xs ys n w d)

-- and named
pub wire_named : (w : ℕ) (n : List ℕ) (es : List Entry) → WireIn w n es → Among n (entry_names es)
wire_named w n [] h = absurd h
wire_named w n (wire u m ∷ es) (inl e) = inl (sym e.1)
wire_named w n (wire u m ∷ es) (inr h) = inr (wire_named w n es h)
wire_named w n (drive u m x ∷ es) h = inr (wire_named w n es h)
wire_named w n (assign m x ∷ es) h = wire_named w n es h
wire_named w n (inst m ps k cs ∷ es) h = inr (wire_named w n es h)
