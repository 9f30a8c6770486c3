-- Bits and entries that fit wherever their nets are declared and known.
use Rattle.std.proofs.Common.{Bool, List, [], arith, codes, cond, eqb, false, flat_map, inl, inr, length, map, refl, reverse, subst, suc, sym, true, ℕ, ◌++◌, ◌+◌, ◌<◌, ◌||◌, ◌∷◌, ◌≡◌, ◌≤◌}
use Rattle.std.proofs.lemmas.Bool.{eqb-true}
use Rattle.std.proofs.lemmas.Bool.Decides.{nat_tests}
use Rattle.std.proofs.lemmas.List.{length-reverse}
use Rattle.std.specs.Str.{bytes_eq}
use Rattle.cg_busspec.specs.CrossbarModule.{connection}
use Rattle.cg_svspec.proofs.WellSound.{Above, Up, after, same_up, up_after, up_up, with_assign, with_drive, with_wire}
use Rattle.cg_svspec.specs.Names.{Among}
use Rattle.cg_svspec.specs.Printable.{AllOf}
use Rattle.cg_svspec.specs.Tree.{Connection, Entry, Expression, Parameter, assign, cut, drive, expressions, inst, net, wire}
use Rattle.cg_svspec.specs.Value.{flop_name}
use Rattle.cg_svspec.specs.WellFormed.{ConnectionsUse, Declares, EntriesFit, FifoFits, FlopFits, HasWidth, PartsHaveWidth, SocketFits, SomeWidth, Uses, UsesAll, fifo_name, is_part, join_name, join_ports, split_name, split_ports}
use Rattle.cg_topspec.proofs.EachItem.{each_reversed}
use Rattle.cg_topspec.proofs.ReadBits.{IsBit, bit_of, nought}
use Rattle.cg_topspec.specs.TopModule.{bits_of, vector_assign}

-- a net that is declared with this width, and that may be used
pub record IsUsable (e : Above) (name : List ℕ) (width : ℕ) : Type 0 where
  pub declared : Declares e.nets name width
  pub known : Among name e.known

pub usable_up : {e f : Above} (name : List ℕ) (width : ℕ) → Up e f → IsUsable e name width → IsUsable f name width
usable_up name width up h = record { declared = up.nets name width h.declared; known = up.known name h.known }

-- ---- bits

module _ (P : List ℕ → ℕ → Type 0) (e : Above) (usable : (name : List ℕ) (width : ℕ) → P name width → IsUsable e name width) where
  bit_fits : (x : Expression) → IsBit P x → HasWidth e.nets x 1 × Uses e.known x
  bit_fits x nought = (refl, tt)
  bit_fits x (bit_of name width k is less) = by (usable name width is) (eqb width 1) refl where
    by : IsUsable e name width → (b : Bool) → eqb width 1 ≡ b
        → HasWidth e.nets (cond b (net name) (cut name k k)) 1 × Uses e.known (cond b (net name) (cut name k k))
    by h true is = (subst (Declares e.nets name) (eqb-true width 1 is) h.declared, h.known)
    by h false is = ((width, h.declared, wide, less, omega arith, omega arith), h.known) where
      wide : 1 < width
      wide = grind (arith, nat_tests)

  parts_fit : (xs : List Expression) → AllOf (IsBit P) xs → PartsHaveWidth e.nets (expressions xs) (length xs) × UsesAll e.known (expressions xs)
  parts_fit [] all = (refl, tt)
  parts_fit (x ∷ xs) all =
      let h = bit_fits x all.0 in
      let t = parts_fit xs all.1 in
      ((1, length xs, h.0, t.0, next (length xs)), (h.1, t.1)) where
        next : (n : ℕ) → suc n ≡ 1 + n
        next n = omega arith

  -- several bits have the width of their number
  pub bits_fit : (xs : List Expression) → length xs ≤ 65537 → AllOf (IsBit P) xs → HasWidth e.nets (bits_of xs) (length xs) × Uses e.known (bits_of xs)
  bits_fit xs few all =
      let h = parts_fit (reverse xs) (each_reversed (IsBit P) xs all) in
      let long : length (reverse xs) ≡ length xs = length-reverse xs in
      ((omega (arith, few), subst (PartsHaveWidth e.nets (expressions (reverse xs))) long h.0), h.1)

-- ---- entries

-- the entries fit wherever all of b stands above them
abbrev pub Fits : List (List ℕ) → Above → List Entry → Type 0
Fits inputs b es = (e : Above) → Up b e → EntriesFit inputs e.nets e.known es

-- entries behind entries
fit_join : (inputs : List (List ℕ)) (e : Above) (xs ys : List Entry) → EntriesFit inputs e.nets e.known xs
    → EntriesFit inputs (after e xs).nets (after e xs).known ys → EntriesFit inputs e.nets e.known (xs ++ ys)
fit_join inputs e [] ys s t = t
fit_join inputs e (wire w n ∷ xs) ys s t = fit_join inputs (with_wire e n w) xs ys s t
fit_join inputs e (drive w n x ∷ xs) ys s t = (s.0, s.1, fit_join inputs (with_drive e n w) xs ys s.2 t)
fit_join inputs e (assign n x ∷ xs) ys s t = (s.0, s.1, fit_join inputs (with_assign e n) xs ys s.2 t)
fit_join inputs e (inst m ps n cs ∷ xs) ys s t = (s.0, s.1, fit_join inputs e xs ys s.2 t)

pub fits_join : (inputs : List (List ℕ)) (b : Above) (xs ys : List Entry) → Fits inputs b xs → Fits inputs b ys → Fits inputs b (xs ++ ys)
fits_join inputs b xs ys f g e up = fit_join inputs e xs ys (f e up) (g (after e xs) (up_up up (up_after e xs)))

-- where the first are known above the last
pub fits_behind : (inputs : List (List ℕ)) (b : Above) (xs ys : List Entry) → Fits inputs b xs → Fits inputs (after b xs) ys
    → EntriesFit inputs b.nets b.known (xs ++ ys)
fits_behind inputs b xs ys f g = fit_join inputs b xs ys (f b (same_up b)) (g (after b xs) (same_up (after b xs)))

pub fits_flat : {A : Type 0} (inputs : List (List ℕ)) (b : Above) (f : A → List Entry) (xs : List A) → ((x : A) → Among x xs → Fits inputs b (f x))
    → Fits inputs b (flat_map f xs)
fits_flat inputs b f [] h = λ e up. tt
fits_flat inputs b f (x ∷ xs) h = fits_join inputs b (f x) (flat_map f xs) (h x (inl refl)) (fits_flat inputs b f xs (λ y a. h y (inr a)))

pub fits_map : {A : Type 0} (inputs : List (List ℕ)) (b : Above) (f : A → Entry) (xs : List A) → ((x : A) → Among x xs → Fits inputs b (f x ∷ []))
    → Fits inputs b (map f xs)
fits_map inputs b f [] h = λ e up. tt
fits_map inputs b f (x ∷ xs) h = fits_join inputs b (f x ∷ []) (map f xs) (h x (inl refl)) (fits_map inputs b f xs (λ y a. h y (inr a)))

-- wires fit anywhere
pub wires_fit : {A : Type 0} (inputs : List (List ℕ)) (b : Above) (width : A → ℕ) (name : A → List ℕ) (xs : List A)
    → Fits inputs b (map (λ x. wire (width x) (name x)) xs)
wires_fit inputs b width name xs = fits_map inputs b (λ x. wire (width x) (name x)) xs (λ x a e up. tt)

-- a vector is assigned, where it is declared with as many bits
pub vector_fits : (inputs : List (List ℕ)) (b : Above) (P : List ℕ → ℕ → Type 0) → ((name : List ℕ) (width : ℕ) → P name width → IsUsable b name width)
    → (name : List ℕ) (xs : List Expression)
    → length xs ≤ 65537 → (0 < length xs → Declares b.nets name (length xs)) → AllOf (IsBit P) xs → Fits inputs b (vector_assign name xs)
vector_fits inputs b P usable name [] few target all = λ e up. tt
vector_fits inputs b P usable name (x ∷ xs) few target all = λ e up.
    let h = bits_fit P e (λ n w is. usable_up n w up (usable n w is)) (x ∷ xs) few all in
    ((length (x ∷ xs), up.nets name (length (x ∷ xs)) (target (omega arith)), h.0), h.1, tt)

-- ---- connections

-- the connection is to a bare net that may be used
pub record IsWired (e : Above) (c : Connection) : Type 0 where
  pub name : List ℕ
  pub width : ℕ
  pub value : c.value ≡ net name
  pub usable : IsUsable e name width

pub wired : (e : Above) (port name : List ℕ) (width : ℕ) → IsUsable e name width → IsWired e (connection port (net name))
wired e port name width h = record { name = name; width = width; value = refl; usable = h }

pub wired_up : {e f : Above} (c : Connection) → Up e f → IsWired e c → IsWired f c
wired_up c up h = record { name = h.name; width = h.width; value = h.value; usable = usable_up h.name h.width up h.usable }

-- an instance of no known part fits where all its connections are to such nets
pub instance_fits : (inputs : List (List ℕ)) (b : Above) (m : List ℕ) (ps : List Parameter) (name : List ℕ) (cs : List Connection) → is_part m ≡ false
    → AllOf (IsWired b) cs → Fits inputs b (inst m ps name cs ∷ [])
instance_fits inputs b m ps name cs other all = λ e up. (
  plain e (bytes_eq m flop_name) (bytes_eq m split_name) (bytes_eq m join_name) (bytes_eq m fifo_name) other (widths e up cs all),
  uses e up cs all,
  tt,
) where
  widths : (e : Above) → Up b e → (cs : List Connection) → AllOf (IsWired b) cs → AllOf (SomeWidth e.nets) cs
  widths e up [] all = tt
  widths e up (c ∷ cs) all =
      let h = wired_up c up all.0 in
      ((h.width, subst (λ v. HasWidth e.nets v h.width) (sym h.value) h.usable.declared), widths e up cs all.1)

  uses : (e : Above) → Up b e → (cs : List Connection) → AllOf (IsWired b) cs → ConnectionsUse e.known cs
  uses e up [] all = tt
  uses e up (c ∷ cs) all = let h = wired_up c up all.0 in (subst (Uses e.known) (sym h.value) h.usable.known, uses e up cs all.1)

  plain : (e : Above) (flop split join fifo : Bool) → (flop || (split || (join || fifo))) ≡ false → AllOf (SomeWidth e.nets) cs
      → cond flop (FlopFits e.nets ps cs) (cond split (SocketFits (codes "N") split_ports e.nets ps cs)
      (cond join (SocketFits (codes "M") join_ports e.nets ps cs) (cond fifo (FifoFits e.nets ps cs) (AllOf (SomeWidth e.nets) cs))))
  plain e true split join fifo fails h = cc
  plain e false true join fifo fails h = cc
  plain e false false true fifo fails h = cc
  plain e false false false true fails h = cc
  plain e false false false false fails h = h
