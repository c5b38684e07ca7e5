-- SCOPE 9.6: for every accepted journal, the calls that its lines say, given to the reference model with a lent length of at least the committed
-- prefix, are refused nowhere and leave exactly those bytes, the active edits and the checkpoints: with the older writer, and where no line is an idle
-- edit with the present one. Assumes nothing.
use Rattle.std.specs.Prelude.{◌≡◌, true, ltb}
use Rattle.std.proofs.Math.Path.{refl, sym, ap}
use Rattle.std.proofs.Common.{◌∙◌, subst, arith, lt-ltb, le-leb, ltb-false}
use mathlib.Core.List.{List, [], ◌∷◌, ◌++◌, append_assoc, append-nil, map}
use Rattle.std.proofs.Math.Option.{Option, some, none, some-injective}
use Prim.Native.Nat.{ℕ, ◌+◌, ◌≤◌}
use Rattle.std.proofs.Math.ListN.{length, take, length-append}
use Rattle.std.proofs.Math.Seq.{length-take-le}
use Rattle.basics.specs.Bools.{by_bool}
use Rattle.config.specs.declared.TerrainConfig.{TerrainConfig}
use Rattle.config.specs.declared.ChunkPos.{ChunkPos}
use Rattle.config.specs.Limits.{config_header}
use Rattle.grid.specs.Grid.{in_all}
use Rattle.grid_edits.specs.Edits.{Group}
use Rattle.ground.specs.Ground.{ground}
use Rattle.journal_format.specs.Names.{name_ok}
use Rattle.journal_format.specs.Line.{Edit, set, column, batch, header_text, edit_text, undo_text, checkpoint_text, restore_text, ended, line_of}
use Rattle.journal_format.specs.Line.{Line, edits, undoes, checkpoints, restores, wrong}
use Rattle.journal_format.specs.Journal.{lines, committed, Active, active, none_active, joins, drop_last, after_line, read, follow}
use Rattle.journal_format.proofs.Checkpoints.{restore_remembered}
use Rattle.journal_format.specs.Lines.{join}
use Rattle.journal_format.proofs.Lines.{committed_le, take_committed}
use Rattle.journal_format.specs.RoundTrip.{EditOk}
use Rattle.journal_format.specs.Batches.{batch_args}
use Rattle.journal_format.proofs.Batches.{batch_args_lem, batch_given}
use Rattle.journal_format.specs.Writer.{said_text, LineOk, AllLineOk, on_some, after_all}
use Rattle.journal_format.proofs.Writer.{follow_said}
use Rattle.session_calls.specs.Asked.{Asked, asks, clip, set_asks, column_asks, batch_line, batch_asks}
use Rattle.takeover_model.specs.Model.{Call, Model, model_size, cells_with, model_cells, model_fresh, left, asked_by, Writer, older_edit}
use Rattle.takeover_model.specs.Model.{model_edit, model_relay, model_undo, model_restore, saved_as, room_for_names, model_checkpoint, step_by}
use Rattle.takeover_model.specs.Model.{run_by, replies_by}
use Rattle.takeover_model.proofs.Asks.{set_same, column_same, batch_same}
use Rattle.takeover_model.proofs.Steps.{saved_same}
use Rattle.takeover_model.specs.Cut.{Same}
use Rattle.takeover_model.proofs.Cut.{same_trans}
use Rattle.takeover_model.specs.Alters.{Alters, LineAlters, ThenOn, EachLine, LaterAlter}
use Rattle.takeover_model.proofs.Alters.{older_same}
use Rattle.takeover.specs.Accepted.{call_of, calls_of, AllAccepted, Gives, Accepted, WrittenByBoth}

-- ---- it asks for that line

clip_same : (k size : ℕ) → k ≤ size → clip k size ≡ k
unfolding clip
clip_same k size h = by_bool (ltb k size) (λ e. rw e) (λ e. rw e (let g = ltb-false k size e in omega arith))

some_line : (gs : List Group) → 1 ≤ length gs → batch_line gs ≡ asks (batch gs)
some_line [] h = absurd (omega arith)
some_line (g ∷ gs) h = refl

asked_line : (size : ℕ) (e : Edit) (p : EditOk size e) → asked_by size (call_of size (edits e) p) ≡ asks e
unfolding set_asks column_asks batch_asks
asked_line size (set x y z id) p = set_same size x y z id p.id ∙ rw (in_all size x y z p.x p.y p.z)
asked_line size (column x z height id) p =
    column_same size x z height id p.id ∙ rw (lt-ltb x size p.x, lt-ltb z size p.z, clip_same height size p.height)
asked_line size (batch gs) p =
    batch_same size (batch_args gs)
    ∙ rw (batch_given size gs p.inside, batch_args_lem size gs p.inside, le-leb (length gs) 16 p.most) (some_line gs p.some)

never : {X : Type 0} (b : Active) → none ≡ some b → X
never b e = let z : ◌≡◌ {A = ℕ} 0 1 = cc in absurd (omega arith)

-- an edit, by the older writer
older_gives : (m : Model) (e : Edit) (b : Active) → after_line m.active (edits e) ≡ some b → length (ended (edit_text e)) ≤ left m
    → Gives m (older_edit m (asks e)) b (edit_text e)
unfolding after_line older_edit
older_gives m e b a h =
    by_bool (ltb (length m.active.edits) 256)
    (λ f. rw (f, le-leb (length (ended (edit_text e))) (left m) h)
    (record {
      accepted = refl;
      bytes = refl;
      active = some-injective (joins m.active e) b (rw f at a);
      same = record { config = refl; place = refl; borrowed = refl };
    }))
    (λ f. never b (rw f at a))

-- the map laid anew with es
relay_gives : (m : Model) (es : List Edit) (l : List ℕ) → length (ended l) ≤ left m
    → Gives m (model_relay m es (ended l)) (active es m.active.checkpoints) l
unfolding model_relay
relay_gives m es l h =
    rw (le-leb (length (ended l)) (left m) h)
    (record { accepted = refl; bytes = refl; active = refl; same = record { config = refl; place = refl; borrowed = refl } })

undo_gives : (m : Model) (b : Active) (es : List Edit) → drop_last m.active.checkpoints es ≡ some b → length (ended undo_text) ≤ left m
    → Gives m (model_undo m es) b undo_text
unfolding model_undo
undo_gives m b [] a h = never b a
undo_gives m b (e ∷ es) a h =
    subst (λ (x : Active). Gives m (model_relay m es (ended undo_text)) x undo_text) (some-injective (active es m.active.checkpoints) b a)
    (relay_gives m es undo_text h)

after_undo : (a b : Active) → after_line a undoes ≡ some b → drop_last a.checkpoints a.edits ≡ some b
unfolding after_line
after_undo a b e = e

-- a line M or R that is allowed where it is: none of 25, 26 and 27 refuses its call
restore_gives : (m : Model) (n : List ℕ) (b : Active) → name_ok n ≡ true → after_line m.active (restores n) ≡ some b
    → length (ended (restore_text n)) ≤ left m → Gives m (model_restore m n) b (restore_text n)
unfolding model_restore
restore_gives m n b k a h =
    let q = restore_remembered m.active b n a in
    rw (k, q.0)
    (subst (λ (x : Active). Gives m (model_relay m b.edits (ended (restore_text n))) x (restore_text n)) (ap (active b.edits) (sym q.1))
    (relay_gives m b.edits (restore_text n) h))

checkpoint_gives : (m : Model) (n : List ℕ) (b : Active) → name_ok n ≡ true → after_line m.active (checkpoints n) ≡ some b
    → length (ended (checkpoint_text n)) ≤ left m → Gives m (model_checkpoint m n) b (checkpoint_text n)
unfolding model_checkpoint
checkpoint_gives m n b k a h =
    let q = sym (saved_same m n) ∙ a in
    by_bool (room_for_names (saved_as m n))
    (λ e. rw (k, e, le-leb (length (ended (checkpoint_text n))) (left m) h)
    (record {
      accepted = refl;
      bytes = refl;
      active = some-injective (active m.active.edits (saved_as m n)) b (rw e at q);
      same = record { config = refl; place = refl; borrowed = refl };
    }))
    (λ e. never b (rw e at q))

-- ---- all lines, by a writer w that writes those of which `Ok` holds as the older writer does; `from` is the model at the start

module _ (w : Writer) (Ok : Active → Line → Type 0) (from : Model)
    (as_older : (m : Model) (e : Edit) → Same from m → Ok m.active (edits e) → w m (asks e) ≡ older_edit m (asks e)) where
  -- the call is read as that edit
  line_asked : (m : Model) (e : Edit) (k : Asked) (b : Active) → k ≡ asks e → Same from m → Ok m.active (edits e)
      → after_line m.active (edits e) ≡ some b → length (ended (edit_text e)) ≤ left m → Gives m (w m k) b (edit_text e)
  line_asked m e k b q s o a h = rw (q, as_older m e s o) (older_gives m e b a h)

  line_gives : (m : Model) (d : Line) (p : LineOk (model_size m) d) (b : Active) → Same from m → Ok m.active d
      → after_line m.active d ≡ some b → length (ended (said_text d)) ≤ left m → Gives m (step_by w m (call_of (model_size m) d p)) b (said_text d)
  unfolding step_by
  line_gives m (edits (set x y z id)) p b s o a h =
      line_asked m (set x y z id) _ b (asked_line (model_size m) (set x y z id) p) s o a h
  line_gives m (edits (column x z height id)) p b s o a h =
      line_asked m (column x z height id) _ b (asked_line (model_size m) (column x z height id) p) s o a h
  line_gives m (edits (batch gs)) p b s o a h =
      line_asked m (batch gs) _ b (asked_line (model_size m) (batch gs) p) s o a h
  line_gives m undoes p b s o a h = undo_gives m b m.active.edits (after_undo m.active b a) h
  line_gives m (checkpoints n) p b s o a h = checkpoint_gives m n b p a h
  line_gives m (restores n) p b s o a h = restore_gives m n b p a h
  line_gives m wrong p b s o a h = absurd p

  -- from the model m on, the calls ks are all accepted, append the text t and leave b active
  pub record Written (m : Model) (ks : List Call) (b : Active) (t : List ℕ) : Type 0 where
    pub accepted : AllAccepted (replies_by w m ks)
    pub bytes : (run_by w m ks).bytes ≡ m.bytes ++ t
    pub active : (run_by w m ks).active ≡ b

  -- what is shown of the lines that follow a line
  abbrev Later : (size : ℕ) (ds : List Line) (p : AllLineOk size ds) → Type 0
  Later size ds p = (m : Model) (b : Active) → model_size m ≡ size → Same from m → EachLine Ok m.active ds → after_all m.active ds ≡ some b
      → length m.bytes + length (join (map said_text ds)) ≤ m.borrowed → Written m (calls_of size ds p) b (join (map said_text ds))

  given : (size : ℕ) (m : Model) (d : Line) (c : Active) → model_size m ≡ size → Same from m → Ok m.active d → after_line m.active d ≡ some c
      → length (ended (said_text d)) ≤ left m → (r : LineOk size d) → Gives m (step_by w m (call_of size d r)) c (said_text d)
  given size m d c z s o a room r =
      subst (λ (k : ℕ). (r : LineOk k d) → Gives m (step_by w m (call_of k d r)) c (said_text d)) z (λ r. line_gives m d r c s o a room) r

  line_then : (size : ℕ) (d : Line) (ds : List Line) (p : AllLineOk size (d ∷ ds)) (m : Model) (b c : Active) → model_size m ≡ size → Same from m
      → EachLine Ok c ds → after_all c ds ≡ some b → length m.bytes + length (ended (said_text d) ++ join (map said_text ds)) ≤ m.borrowed
      → Later size ds p.1 → Gives m (step_by w m (call_of size d p.0)) c (said_text d)
      → Written m (calls_of size (d ∷ ds) p) b (ended (said_text d) ++ join (map said_text ds))
  unfolding run_by replies_by
  line_then size d ds p m b c z s o q h later g =
      let n : Model = (step_by w m (call_of size d p.0)).next in
      let l = length-append (ended (said_text d)) (join (map said_text ds)) in
      let i : length n.bytes + length (join (map said_text ds)) ≤ n.borrowed =
      (let u = ap length g.bytes ∙ length-append m.bytes (ended (said_text d)) in let v = g.same.borrowed in omega arith) in
      let r = later n b (ap (λ (x : TerrainConfig). x.chunk_size) g.same.config ∙ z) (same_trans s g.same)
      (subst (λ (x : Active). EachLine Ok x ds) (sym g.active) o) (ap (λ (x : Active). after_all x ds) g.active ∙ q) i in
      record {
        accepted = (g.accepted, r.accepted);
        bytes = r.bytes ∙ ap (λ (x : List ℕ). x ++ join (map said_text ds)) g.bytes ∙ append_assoc m.bytes (ended (said_text d)) (join (map said_text ds));
        active = r.active;
      }

  line_or : (size : ℕ) (d : Line) (ds : List Line) (p : AllLineOk size (d ∷ ds)) (m : Model) (b : Active) → model_size m ≡ size → Same from m
      → Ok m.active d → (o : Option Active) → ThenOn (λ c. EachLine Ok c ds) o → after_line m.active d ≡ o
      → on_some (λ c. after_all c ds) o ≡ some b → length m.bytes + length (ended (said_text d) ++ join (map said_text ds)) ≤ m.borrowed
      → Later size ds p.1 → Written m (calls_of size (d ∷ ds) p) b (ended (said_text d) ++ join (map said_text ds))
  line_or size d ds p m b z s k none o a q h later = never b q
  line_or size d ds p m b z s k (some c) o a q h later =
      let room : length (ended (said_text d)) ≤ left m = (let l = length-append (ended (said_text d)) (join (map said_text ds)) in omega arith) in
      line_then size d ds p m b c z s o q h later (given size m d c z s k a room p.0)

  lines_written : (size : ℕ) (ds : List Line) (p : AllLineOk size ds) → Later size ds p
  unfolding after_all run_by replies_by join
  lines_written size [] p m b z s o e h = record { accepted = tt; bytes = sym (append-nil m.bytes); active = some-injective m.active b e }
  lines_written size (d ∷ ds) p m b z s o e h =
      line_or size d ds p m b z s o.0 (after_line m.active d) o.1 refl e h (lines_written size ds p.1)

-- every line is as the older writer writes it
each_older : (a : Active) (ds : List Line) → EachLine (λ (b : Active) (d : Line). Unit) a ds
each_older a [] = tt
each_older a (d ∷ ds) = (tt, go (after_line a d) (λ b. each_older b ds))
  where
    go : (o : Option Active) → ((b : Active) → EachLine (λ (b : Active) (d : Line). Unit) b ds)
        → ThenOn (λ b. EachLine (λ (b : Active) (d : Line). Unit) b ds) o
    go (some b) ih = ih b
    go none ih = tt

-- a line that is no idle edit is as the present writer writes it
present_as_older : (from m : Model) (e : Edit) → Same from m → LineAlters (model_size from) (ground from.config from.place) m.active (edits e)
    → model_edit m (asks e) ≡ older_edit m (asks e)
unfolding model_cells cells_with
present_as_older from m e s p =
    older_same m e
    (subst (λ (x : TerrainConfig). Alters x.chunk_size (ground x m.place) m.active.edits e) (sym s.config)
    (subst (λ (x : ChunkPos). Alters (model_size from) (ground from.config x) m.active.edits e) (sym s.place) p))

-- ---- the proof: from G's line and good lines behind it

module _ (config : TerrainConfig) (place : ChunkPos) (s : List ℕ) (ls : List (List ℕ)) (b : Active)
    (whole : lines s ≡ header_text (config_header config place) ∷ ls) (reads : follow config.chunk_size 2 none_active ls ≡ read b)
    (borrowed : ℕ) (fits : committed s ≤ borrowed) where
  -- the model that it began as
  abbrev new : Model
  new = model_fresh config place borrowed

  written_by_lem : (w : Writer) (Ok : Active → Line → Type 0)
      → ((n : Model) (e : Edit) → Same new n → Ok n.active (edits e) → w n (asks e) ≡ older_edit n (asks e))
      → EachLine Ok none_active (map (line_of config.chunk_size) ls) → Accepted w s config place b borrowed
  unfolding model_fresh join
  written_by_lem w Ok as_older ok =
      let h : List ℕ = ended (header_text (config_header config place)) in
      let ds : List Line = map (line_of config.chunk_size) ls in
      let d = follow_said config.chunk_size 2 none_active b ls reads in
      let t : take (committed s) s ≡ h ++ join (map said_text ds) =
      take_committed s ∙ ap join whole ∙ ap (λ (x : List (List ℕ)). h ++ join x) d.text in
      let n : length h + length (join (map said_text ds)) ≤ borrowed =
      (let u = length-take-le (committed s) s (committed_le s) in
      let v = ap length t ∙ length-append h (join (map said_text ds)) in
      omega arith) in
      let r = lines_written w Ok new as_older config.chunk_size ds d.good new b refl (record { config = refl; place = refl; borrowed = refl }) ok
      d.gives n in
      record { said = ds; good = d.good; accepted = r.accepted; bytes = r.bytes ∙ sym t; active = r.active }

  pub by_both : WrittenByBoth s config place b borrowed
  unfolding model_fresh
  by_both = record {
    older = written_by_lem older_edit (λ (a : Active) (d : Line). Unit) (λ n e same ok. refl) (each_older none_active (map (line_of config.chunk_size) ls));
    present = λ p.
        written_by_lem model_edit (LineAlters config.chunk_size (ground config place)) (present_as_older new)
        (subst (LaterAlter config.chunk_size (ground config place)) whole p);
  }
