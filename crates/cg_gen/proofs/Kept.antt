-- What the store holds after its outputs are written.
use Rattle.std.proofs.Common.{◌≡◌, ◌≢◌, ℕ, List, [], ◌∷◌, ◌++◌, map, Option, Some, refl, sym, ap, ◌∙◌, subst, inl, inr, cond}
use Rattle.std.specs.FinMap as fin
use Rattle.std.specs.Cmp.Lexicographic.{nat_list_cmp_total}
use Rattle.std.proofs.lemmas.Cmp.{eq_by_cmp_equiv}
use Rattle.std.proofs.lemmas.List.{append_cancel_left}
use Rattle.cg_base.specs.Outside.{Files, written_OnlyAt}
use Rattle.cg_svspec.specs.Names.{Among}
use Rattle.cg_outputs.specs.declared.out_file.OutFile.{OutFile}
use Rattle.cg_outputs.specs.Outputs.{NamesDiffer, Rises}
use Rattle.cg_deeds.specs.declared.deed.Stream.TheVariants.{Out}
use Rattle.cg_deeds.specs.declared.deed.Deed.TheVariants.{Say}
use Rattle.cg_deeds.specs.Deeds.{after_deeds}
use Rattle.cg_deeds.specs.Told.{stored_name}
use Rattle.cg_gen.specs.Due.{write_of}
use Rattle.cg_keep.proofs.Texts.{rises_differ}

-- the files after these outputs were written into a folder
abbrev pub after : List ℕ → Files → List OutFile → Files
after dir m [] = m
after dir m (o ∷ os) = after dir (fin.insert m (stored_name dir o.name) o.bytes) os

pub written_are : (dir line : List ℕ) (m : Files) (os : List OutFile) (out err : Option (List ℕ))
    → (after_deeds (map (write_of dir) os ++ (Say Out line ∷ [])) (record { files = Some m; out = out; err = err })).files ≡ Some (after dir m os)
written_are dir line m [] out err = refl
written_are dir line m (o ∷ os) out err = written_are dir line (fin.insert m (stored_name dir o.name) o.bytes) os out err

pub apart : (m : Files) (name bytes q : List ℕ) → q ≢ name → fin.get (fin.insert m name bytes) q ≡ fin.get m q
apart m name bytes q differ = written_OnlyAt name bytes (Some m) (Some (fin.insert m name bytes)) refl q differ

-- a name that none of the outputs has is as it was
pub untouched : (dir : List ℕ) (m : Files) (os : List OutFile) (q : List ℕ) → ((o : OutFile) → Among o os → q ≢ stored_name dir o.name) → fin.get (after dir m os) q ≡ fin.get m q
untouched dir m [] q none = refl
untouched dir m (o ∷ os) q none =
    untouched dir (fin.insert m (stored_name dir o.name) o.bytes) os q (λ p among. none p (inr among)) ∙ apart m (stored_name dir o.name) o.bytes q (none o (inl refl))

pub here : (m : Files) (name bytes : List ℕ) → fin.get (fin.insert m name bytes) name ≡ Some bytes
here m name bytes =
    fin.get-insert nat_list_cmp_total m name bytes name
    ∙ ap (λ b. cond b (Some bytes) (fin.get m name)) ((eq_by_cmp_equiv nat_list_cmp_total).refl name)

-- names in one folder differ where the names do
stored_apart : (dir : List ℕ) (a b : OutFile) → ¬ (a.name ≡ b.name) → stored_name dir a.name ≢ stored_name dir b.name
stored_apart dir a b differ same = differ (append_cancel_left (47 ∷ []) a.name b.name (append_cancel_left dir _ _ same))

-- each output's bytes are held, where no two have one name
pub kept_apart : (dir : List ℕ) (m : Files) (os : List OutFile) (o : OutFile) → NamesDiffer os → Among o os → fin.get (after dir m os) (stored_name dir o.name) ≡ Some o.bytes
kept_apart dir m [] o differ among = absurd among
kept_apart dir m (p ∷ ps) o differ (inl is) =
    subst (λ (x : OutFile). fin.get (after dir m (p ∷ ps)) (stored_name dir x.name) ≡ Some x.bytes) (sym is)
    (untouched dir (fin.insert m (stored_name dir p.name) p.bytes) ps (stored_name dir p.name) (λ q among. stored_apart dir p q (differ.0 q among)) ∙ here m (stored_name dir p.name) p.bytes)
kept_apart dir m (p ∷ ps) o differ (inr there) = kept_apart dir (fin.insert m (stored_name dir p.name) p.bytes) ps o differ.1 there

-- so where their names rise
pub kept : (dir : List ℕ) (m : Files) (os : List OutFile) (o : OutFile) → Rises os → Among o os → fin.get (after dir m os) (stored_name dir o.name) ≡ Some o.bytes
kept dir m os o rises among = kept_apart dir m os o (rises_differ os rises) among
