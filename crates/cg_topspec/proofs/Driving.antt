-- What the connections of an instance of no known part drive.
use Rattle.std.proofs.Common.{Bool, List, None, Option, Some, [], ap, arith, codes, cond, false, flat_map, inl, inr, length, length-append, map, not, refl, suc, true, ℕ, ◌&&◌, ◌++◌, ◌+◌, ◌||◌, ◌∙◌, ◌∷◌, ◌≡◌, ◌≤◌}
use Rattle.std.specs.Str.{bytes_eq}
use Rattle.cg_busspec.specs.CrossbarModule.{connection}
use Rattle.cg_svspec.proofs.WellCounts.{count, count-append, one_if}
use Rattle.cg_svspec.specs.Names.{Among, is_among}
use Rattle.cg_svspec.specs.Tree.{Connection, net}
use Rattle.cg_svspec.specs.Walk.{response_name}
use Rattle.cg_svspec.specs.WellFormed.{begins_with, driven_by_connections, driven_nets, ends_with, is_output, is_part}
use Rattle.cg_topspec.proofs.Texts.{other_name}
use Rattle.cg_topspec.proofs.Totals.{count_if, total}
use Rattle.cg_topspec.specs.TopModule.{face_request, host_face_request, host_face_response}

-- a connection of such an instance is an output, by its name
abbrev pub is_giving : List ℕ → Bool
is_giving name =
    ends_with name (codes "_o") || ((begins_with name (codes "h_") && ends_with name (codes "_rsp")) ||
    (begins_with name (codes "d_") && ends_with name (codes "_req")))

-- 1 where this is the name
abbrev pub at : List ℕ → List ℕ → ℕ
at n name = one_if (bytes_eq n name)

-- how often connections of an instance of this module drive the net
abbrev pub gives : List ℕ → List (List ℕ) → List ℕ → List Connection → ℕ
gives n inputs part cs = count n (driven_by_connections inputs part cs)

-- ---- the ends of names

long_differs : (x : ℕ) (xs s t : List ℕ) → length t ≤ length s → bytes_eq (x ∷ (xs ++ s)) t ≡ false
long_differs x xs s t less =
    other_name (x ∷ (xs ++ s)) t (λ e. let same : suc (length (xs ++ s)) ≡ length t = ap length e in absurd (omega (arith, same, length-append xs s, less)))

pub ends_as : (xs s t : List ℕ) → length t ≤ length s → ends_with (xs ++ s) t ≡ ends_with s t
ends_as [] s t less = refl
ends_as (x ∷ xs) s t less = rw (long_differs x xs s t less) (ends_as xs s t less)

-- whether a name gives, where its end tells
pub gives_out_by : (xs s : List ℕ) → 2 ≤ length s → ends_with s (codes "_o") ≡ true → is_giving (xs ++ s) ≡ true
gives_out_by xs s long e = rw (ends_as xs s (codes "_o") long, e) refl

pub keeps_in_by : (xs s : List ℕ) → 4 ≤ length s → ends_with s (codes "_o") ≡ false → ends_with s (codes "_rsp") ≡ false → ends_with s (codes "_req") ≡ false
    → is_giving (xs ++ s) ≡ false
keeps_in_by xs s long e f g =
    let first : ends_with (xs ++ s) (codes "_o") ≡ false = ends_as xs s (codes "_o") (omega (arith, long)) ∙ e in
    let second : ends_with (xs ++ s) (codes "_rsp") ≡ false = ends_as xs s (codes "_rsp") long ∙ f in
    let third : ends_with (xs ++ s) (codes "_req") ≡ false = ends_as xs s (codes "_req") long ∙ g in
    three (ends_with (xs ++ s) (codes "_o")) (begins_with (xs ++ s) (codes "h_")) (ends_with (xs ++ s) (codes "_rsp")) (begins_with (xs ++ s) (codes "d_"))
    (ends_with (xs ++ s) (codes "_req")) first second third
  where
    three : (a b c d e : Bool) → a ≡ false → c ≡ false → e ≡ false → (a || ((b && c) || (d && e))) ≡ false
    three a b c d e p q r = rw (p, q, r) (by b d) where
      by : (b d : Bool) → ((b && false) || (d && false)) ≡ false
      by true true = refl
      by true false = refl
      by false true = refl
      by false false = refl

-- ---- connections to bare nets

module _ (n : List ℕ) (inputs : List (List ℕ)) (part : List ℕ) (other : is_part part ≡ false) where
  drives_one : (port net_name : List ℕ) (cs : List Connection)
      → gives n inputs part (connection port (net net_name) ∷ cs) ≡ count_if (not (is_among inputs net_name) && is_giving port) (at n net_name)
      + gives n inputs part cs
  drives_one port net_name cs =
      rw other (by (not (is_among inputs net_name) && is_giving port)) where
        by : (b : Bool) → count n (cond b (net_name ∷ []) [] ++ driven_by_connections inputs part cs) ≡ count_if b (at n net_name) + gives n inputs part cs
        by true = refl
        by false = omega arith

  -- one that gives, to a net that is no input
  pub drives_this : (port net_name : List ℕ) (cs : List Connection) → is_giving port ≡ true → is_among inputs net_name ≡ false
      → gives n inputs part (connection port (net net_name) ∷ cs) ≡ at n net_name + gives n inputs part cs
  drives_this port net_name cs g free = drives_one port net_name cs ∙ rw (free, g) refl

  -- one that does not give
  pub drives_not : (port net_name : List ℕ) (cs : List Connection) → is_giving port ≡ false
      → gives n inputs part (connection port (net net_name) ∷ cs) ≡ gives n inputs part cs
  drives_not port net_name cs g = drives_one port net_name cs ∙ rw g (by (is_among inputs net_name)) where
    by : (b : Bool) → count_if (not b && false) (at n net_name) + gives n inputs part cs ≡ gives n inputs part cs
    by true = omega arith
    by false = omega arith

  -- one to an input
  pub drives_input : (port net_name : List ℕ) (cs : List Connection) → is_among inputs net_name ≡ true
      → gives n inputs part (connection port (net net_name) ∷ cs) ≡ gives n inputs part cs
  drives_input port net_name cs i = drives_one port net_name cs ∙ rw i (omega arith)

  pub gives_join : (cs ds : List Connection) → gives n inputs part (cs ++ ds) ≡ gives n inputs part cs + gives n inputs part ds
  gives_join [] ds = omega arith
  gives_join (c ∷ cs) ds =
      let first : List (List ℕ) = cond (is_output inputs part c) (driven_nets c.value) [] in
      omega (
        arith,
        count-append n first (driven_by_connections inputs part (cs ++ ds)),
        count-append n first
            (driven_by_connections inputs part cs),
        gives_join cs ds,
      )

  pub gives_flat : {A : Type 0} (f : A → List Connection) (xs : List A) → gives n inputs part (flat_map f xs) ≡ total (λ x. gives n inputs part (f x)) xs
  gives_flat f [] = refl
  gives_flat f (x ∷ xs) = omega (arith, gives_join (f x) (flat_map f xs), gives_flat f xs)

  -- connections that all give, to nets that are no inputs
  pub all_give : {A : Type 0} (port name : A → List ℕ) (xs : List A) → ((x : A) → Among x xs → (is_giving (port x) ≡ true) × (is_among inputs (name x) ≡ false))
      → gives n inputs part (map (λ x. connection (port x) (net (name x))) xs) ≡ total (λ x. at n (name x)) xs
  all_give port name [] h = refl
  all_give port name (x ∷ xs) h =
      drives_this (port x) (name x) (map (λ y. connection (port y) (net (name y))) xs) (h x (inl refl)).0 (h x (inl refl)).1 ∙ ap (λ k. at n (name x) + k)
      (all_give port name xs (λ y a. h y (inr a)))

  -- that all do not
  pub none_gives : {A : Type 0} (port name : A → List ℕ) (xs : List A) → ((x : A) → Among x xs → is_giving (port x) ≡ false)
      → gives n inputs part (map (λ x. connection (port x) (net (name x))) xs) ≡ 0
  none_gives port name [] h = refl
  none_gives port name (x ∷ xs) h =
      drives_not (port x) (name x) (map (λ y. connection (port y) (net (name y))) xs) (h x (inl refl)) ∙ none_gives port name xs (λ y a. h y (inr a))

  -- that all go to inputs
  pub inputs_give_none : {A : Type 0} (port name : A → List ℕ) (xs : List A) → ((x : A) → Among x xs → is_among inputs (name x) ≡ true)
      → gives n inputs part (map (λ x. connection (port x) (net (name x))) xs) ≡ 0
  inputs_give_none port name [] h = refl
  inputs_give_none port name (x ∷ xs) h =
      drives_input (port x) (name x) (map (λ y. connection (port y) (net (name y))) xs) (h x (inl refl)) ∙ inputs_give_none port name xs (λ y a. h y (inr a))

-- ---- names that are written out

pub host_request_keeps : (name : List ℕ) → is_giving (codes "h_" ++ (name ++ codes "_req")) ≡ false
host_request_keeps name =
    let ending : ends_with (codes "h_" ++ (name ++ codes "_req")) (codes "_o") ≡ false = ends_as (codes "h_" ++ name) (codes "_req") (codes "_o")
    (omega arith) in
    let other : ends_with (codes "h_" ++ (name ++ codes "_req")) (codes "_rsp") ≡ false = ends_as (codes "h_" ++ name) (codes "_req") (codes "_rsp")
    (omega arith) in
    rw (ending, other) refl

pub host_response_gives : (name : List ℕ) → is_giving (codes "h_" ++ (name ++ codes "_rsp")) ≡ true
host_response_gives name =
    let ending : ends_with (codes "h_" ++ (name ++ codes "_rsp")) (codes "_o") ≡ false = ends_as (codes "h_" ++ name) (codes "_rsp") (codes "_o")
    (omega arith) in
    let this : ends_with (codes "h_" ++ (name ++ codes "_rsp")) (codes "_rsp") ≡ true = ends_as (codes "h_" ++ name) (codes "_rsp") (codes "_rsp")
    (omega arith) in
    rw (ending, this) refl

pub device_request_gives : (name : List ℕ) → is_giving (codes "d_" ++ (name ++ codes "_req")) ≡ true
device_request_gives name =
    let ending : ends_with (codes "d_" ++ (name ++ codes "_req")) (codes "_o") ≡ false = ends_as (codes "d_" ++ name) (codes "_req") (codes "_o")
    (omega arith) in
    let this : ends_with (codes "d_" ++ (name ++ codes "_req")) (codes "_req") ≡ true = ends_as (codes "d_" ++ name) (codes "_req") (codes "_req")
    (omega arith) in
    rw (ending, this) refl

pub device_response_keeps : (name : List ℕ) → is_giving (codes "d_" ++ (name ++ codes "_rsp")) ≡ false
device_response_keeps name =
    let ending : ends_with (codes "d_" ++ (name ++ codes "_rsp")) (codes "_o") ≡ false = ends_as (codes "d_" ++ name) (codes "_rsp") (codes "_o")
    (omega arith) in
    let other : ends_with (codes "d_" ++ (name ++ codes "_rsp")) (codes "_req") ≡ false = ends_as (codes "d_" ++ name) (codes "_rsp") (codes "_req")
    (omega arith) in
    rw (ending, other) refl

-- the connections of a device interface, and of a host interface
pub face_request_keeps : (f : Option (List ℕ)) → is_giving (face_request f) ≡ false
face_request_keeps None = refl
face_request_keeps (Some f) = keeps_in_by f (codes "_tl_req_i") (omega arith) refl refl refl

pub face_response_gives : (f : Option (List ℕ)) → is_giving (response_name f) ≡ true
face_response_gives None = refl
face_response_gives (Some f) = gives_out_by f (codes "_tl_rsp_o") (omega arith) refl

pub host_face_request_gives : (f : Option (List ℕ)) → is_giving (host_face_request f) ≡ true
host_face_request_gives None = refl
host_face_request_gives (Some f) = gives_out_by f (codes "_tl_req_o") (omega arith) refl

pub host_face_response_keeps : (f : Option (List ℕ)) → is_giving (host_face_response f) ≡ false
host_face_response_keeps None = refl
host_face_response_keeps (Some f) = keeps_in_by f (codes "_tl_rsp_i") (omega arith) refl refl refl
