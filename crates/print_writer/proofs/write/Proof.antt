-- `writer::write` meets its contract: a walk of its MIR, by hand. All that it knows of `new`, `put` and `place` is that each meets its contract.
-- Key idea: each is called at the page's own lifetime, share and ghost name. What is handed back is a writer that is known whole, so what `place` says of
-- the last list is said of `page`'s, and the borrow is given up for good (`gave_slice`).
--     goes-new, goes-put, goes-place     what the caller has gives what the callee's triple asks
--     new-back, put_back, place-back     what the triple leaves gives the tokens, and the writer or the last list
--     typed                              a writer's machine value fits a local, whose type erases the lifetime
-- Assumes nothing.
use mathlib.Core.Path.{◌≡◌, refl, sym, ap, subst}
use Prim.Native.Nat.{ℕ, ◌<◌, ◌^◌}
use mathlib.Core.List.{[], ◌∷◌, List}
use lib.Dec.{T as Holds}
use lib.ListN.{length}
use seplogic.Ra.Ura.{Ura}
use mir.Syntax.{named, erased, w64}
use mir.Val.{Val, WT, has_ty, vint}
use base.Logic.{SProp, ent, sep}
use base.Fml.{Lft, Share, Fml, ftrue, fsep, flft, fbor}
use types.SemTy.{Arr, Body}
use types.Hole.{Holey}
use denote.Memory.{mem as memory_of}
use prog.Memory.{Memory}
use prog.Routine.{Routine}
use prog.Wp.{Calls, Loops, WpFn, Tables}
use types.Logic.{Logic, sem}
use contract.Lifetimes.{toks}
use contract.Monad.{Fun, fact}
use contract.Running.{tables, tables_of}
use types.Kit.{‵, raw, some, later, ◌⊛◌, ⋆, ◌$◌, ◌∵◌, !, qed, by, move, keep, drop, use1, use2, split, join, pick, rewrite, fsplit, fjoin, suffices}
use types.Kit.{frame, await, updating, now as at_once, done}
use types.Run.{look, init, forget, stop, hop, fld, from, load, addr, and_then, no_more, assigns, land, returns, enter, alloc1, alloc0, params1, pass1, pass0}
use types.Run.{free1, free0}
use types.Part.{agg, whole, sub, look_in}
use sound.WpLaws.{FmC, fm_of, WpFn-mono}
use denote.RattleType.{RattleType, owns}
use denote.Laws.{Is, shows}
use denote.Plain.{uint_Makes, uint_vals, uint_Tells, uint_Lawful}
use denote.Builtin.{u8, usize}
use denote.Ref.{Bor, MutBor, NamedLft}
use denote.Slice.{slice_val, MutSlice, ShrSlice, Room as SliceRoom, finally, shr_slice_vals, mut_slice_vals, mut_slice_Tells, shr_slice_Tells}
use denote.Steps.{only, owned, peeks, heard, nothing}
use denote.Struct.Laws as LL
use denote.Triple.Entry.{on_entry}
use denote.Triple.Spec.{Meets, triple_of}
use denote.Triple.Statement.{Contract, Triple}
use denote.Triple.Call.{calls_at}
use denote.Triple.Clauses.{lasts}
use denote.Triple.Table.{entered}
use denote.Triple.Walked.{says, needs, Stays, stay_dropped, gave_slice, walk_of, Goes-gave_slice, Walks, ends_at, walked, walk_Meets}
use denote.Exit.{yes}
use denote.Signature.{plain}
use Rattle.print_bytes.specs.Writing.{Room}
use Rattle.print_bytes.proofs.WritingLaws.{bytes_length}
use Rattle.print_writer.specs.Advanced.{advanced}
use Rattle.print_writer.specs.declared.Writer.{Writer}
use Rattle.print_writer.specs.contracts.Writer as T
use Rattle.print_writer.proofs.Writer.TheLaws as T'
use Rattle.print_writer.specs.contracts.new as new
use Rattle.print_writer.proofs.new.Symbol.{name as #writer·new}
use Rattle.print_writer.proofs.new.Met as new-thm
use Rattle.print_writer.specs.contracts.put as put
use Rattle.print_writer.proofs.put.Symbol.{name as #writer·put}
use Rattle.print_writer.proofs.put.Met as put-thm
use Rattle.print_writer.specs.contracts.place as place
use Rattle.print_writer.proofs.place.Symbol.{name as #writer·place}
use Rattle.print_writer.proofs.place.Met as place-thm
use Rattle.print_writer.specs.contracts.write.Key.{name as #writer·write}
use Rattle.print_writer.specs.contracts.write as write
use Rattle.print_writer.proofs.write.Statement as stated
use Rattle.print_writer.proofs.write.Code as code

abbrev stayed : Stays (write.ended).signature.params (write.ended).kept
stayed = (gave_slice (0 ∷ []) tt (plain (λ _. u8)), (stay_dropped _ yes, (stay_dropped _ yes, tt)))

module _ {M : Type 1} {𝓤 : Ura M} (𝓛 : Logic 𝓤) (mem : Memory → SProp 𝓤) (run : Routine → Fun 𝓤) where
  -- the contracts that the proof cites
  abbrev New : Contract 𝓤
  New = triple_of 𝓛 new.signature (new.spec 𝓛 mem run)

  abbrev Put : Contract 𝓤
  Put = triple_of 𝓛 put.signature (put.spec 𝓛 mem run)

  abbrev Place : Contract 𝓤
  Place = triple_of 𝓛 place.signature (place.spec 𝓛 mem run)

module _ (κ : Lft) where
  abbrev α : NamedLft
  α = record { mir = named 0; lft = κ }

  -- the struct's type, and what a writer owns
  abbrev Row : RattleType
  Row = T.the_row α

  abbrev OwnWriter : Writer → Val → Fml
  OwnWriter h w = Row.own_val h (w ∷ [])

  typed : (h : Writer) (w : Val) → Is Row h (w ∷ []) → Holds (has_ty (T'.mir erased) w) × WT w
  typed h w is =
      let fields = LL.owed (T.the_type α) (T'.the_laws α) h _ is in
      subst (λ (z : Val). Holds (has_ty (T'.mir erased) z) × WT z) (sym (ap only (LL.tells (T.the_type α) (T'.the_laws α) h _ is)))
      (tt, ((tt, (record { fits = fields.0.0.1.0 }, tt)), (record { fits = fields.1.0.1 }, tt)))

module _ {M : Type 1} {𝓤 : Ura M} (𝓛 : Logic 𝓤) (mem : Memory → SProp 𝓤) (run : Routine → Fun 𝓤)
    (κ κ₁ : Lft) (q q₁ : Share) (x : MutBor (List ℕ)) (n : ℕ) (bytes : Bor (List ℕ)) (n-fits : n < 2 ^ 64) where
  open 𝓛 use {H, A}

  abbrev s : Val
  s = slice_val x.ref_ptr (length x.now)

  abbrev R : RattleType
  R = Row κ

  -- the writers that are handed from call to call
  abbrev h₀ : Writer
  h₀ = record { page = x; place = n }

  abbrev h₁ : Writer
  h₁ = advanced h₀ bytes.now

  abbrev rest : Fml
  rest = owns (ShrSlice (named 1) κ₁ u8 ∷ []) (bytes, tt) (shr_slice_vals bytes, tt)

  abbrev tokens : SProp 𝓤
  tokens = toks 𝓛 1 (κ₁, tt) (q₁, tt)

  abbrev Arg : Type 0
  Arg = MutBor (List ℕ) × (ℕ × (Bor (List ℕ) × Unit {0}))

  abbrev a : Arg
  a = (x, (n, (bytes, tt)))

  abbrev vals : List Val × (List Val × (List Val × Unit {0}))
  vals = (s ∷ [], (vint w64 n ∷ [], (shr_slice_vals bytes, tt)))

  abbrev Post : Val → SProp 𝓤
  Post = (walk_of 𝓛 write.ended stayed (write.clauses 𝓛 mem run)).post (((κ, (κ₁, tt)), (q, (q₁, tt)), tt, a, vals), tt)

  -- what is left of the page once its borrow is given up: the last list, and the borrow, closed
  abbrev Borrow : ℕ → Fml
  Borrow m = fbor κ (Body (Arr (Holey (memory_of u8)) m) x.ref_ptr.0 x.ref_ptr.1 x.ghost_name)

  abbrev Gave : Fml
  Gave = fsep (finally u8 x.ghost_name h₁.page.now) (Borrow (length x.now))

  -- ---- `new`
  abbrev to_new : (New 𝓛 mem run).Ghost
  to_new = (((κ, tt), (q, tt), tt, (x, (n, tt)), (s ∷ [], (vint w64 n ∷ [], tt))), tt)

  goes_new : ent 𝓤 (sep 𝓤 (A.lft κ q) (sem 𝓛 ((MutSlice (named 0) κ u8).own_val x (s ∷ [])))) ((New 𝓛 mem run).pre to_new)
  goes_new =
      qed 𝓛 (‵ (flft κ q) ∷ ‵ ((MutSlice (named 0) κ u8).own_val x (s ∷ [])) ∷ []) ∵ nothing ! $ move ! (1 ∷ 0 ∷ []) $ join ! $ move ! (1 ∷ []) $
      nothing ! $ owned ! usize (Is usize) (uint_Makes 𝓛 w64) n _ (refl, n-fits) $ fjoin ! $ move ! (1 ∷ 0 ∷ []) $ fjoin ! $ move ! (1 ∷ 0 ∷ []) $
      join ! $ frame ! $ done !

  new_back : (w : Val) → ent 𝓤 ((New 𝓛 mem run).post to_new w) (H.⇛ (sep 𝓤 (A.lft κ q) (sem 𝓛 (OwnWriter κ h₀ w))))
  new_back w =
      qed 𝓛 (later (some (λ (r : Writer). ((‵ (flft κ q) ⊛ ‵ ftrue) ⊛ ‵ (OwnWriter κ r w)) ⊛ some
      (λ (ws : Unit {0} × (Unit {0} × Unit {0})). ‵ (lasts new.ended (κ, tt) (x, (n, tt)) ws) ⊛ raw (fact 𝓤 ((r.page ≡ x) × (r.place ≡ n)))))) ∷ []) ∵
      updating ! $ await ! tt $ pick ! (λ r.
      split ! $ move ! (1 ∷ []) $ pick ! (λ ws. split ! $ drop ! $ heard ! ((r.page ≡ x) × (r.place ≡ n)) (λ e. split ! $
      rewrite ! 1 (λ (d : Writer). ‵ (OwnWriter κ d w)) (λ i. record { page = e.0 i; place = e.1 i }) refl $
      split ! $ keep ! (0 ∷ 2 ∷ []) $ at_once ! $ done !)))

  -- ---- `put`
  abbrev to_put : Val → (Put 𝓛 mem run).Ghost
  to_put v = (((κ, (κ₁, tt)), (q, (q₁, tt)), tt, (h₀, (bytes, tt)), (v ∷ [], (shr_slice_vals bytes, tt))), tt)

  goes_put : (v : Val) → Room x.now n bytes.now
      → ent 𝓤 (sep 𝓤 (sep 𝓤 (A.lft κ q) tokens) (sem 𝓛 (fsep (OwnWriter κ h₀ v) rest))) ((Put 𝓛 mem run).pre (to_put v))
  goes_put v room = qed 𝓛 (((‵ (flft κ q) ⊛ raw tokens) ⊛ ‵ (fsep (OwnWriter κ h₀ v) rest)) ∷ []) ∵ says ! room $ done !

  -- nothing is said of its parameters at exit
  abbrev Spent : Type 0
  Spent = (Unit {0} × Unit {0}) × (Unit {0} × Unit {0})

  put_back : (v w : Val)
      → ent 𝓤 ((Put 𝓛 mem run).post (to_put v) w) (H.⇛ (sep 𝓤 (sep 𝓤 (A.lft κ q) tokens) (sem 𝓛 (OwnWriter κ h₁ w))))
  put_back v w =
      qed 𝓛 (later (some (λ (r : Writer). ((‵ (flft κ q) ⊛ raw tokens) ⊛ ‵ (OwnWriter κ r w)) ⊛ some
      (λ (ws : Spent). ‵ (fsep (fsep ftrue ftrue) (fsep ftrue ftrue)) ⊛ raw (fact 𝓤 (r ≡ h₁))))) ∷ []) ∵ updating ! $ await ! tt $ pick ! (λ r.
      split ! $ move ! (1 ∷ []) $ pick ! (λ ws. split ! $ drop ! $ heard ! (r ≡ h₁) (λ e. split ! $
      rewrite ! 1 (λ (d : Writer). ‵ (OwnWriter κ d w)) e refl $ at_once ! $ done !)))

  -- ---- `place`
  abbrev to_place : Val → (Place 𝓛 mem run).Ghost
  to_place v = (((κ, tt), (q, tt), tt, (h₁, tt), (v ∷ [], tt)), tt)

  goes_place : (v : Val) → ent 𝓤 (sep 𝓤 (A.lft κ q) (sem 𝓛 (OwnWriter κ h₁ v))) ((Place 𝓛 mem run).pre (to_place v))
  goes_place v =
      qed 𝓛 (‵ (flft κ q) ∷ ‵ (OwnWriter κ h₁ v) ∷ []) ∵ nothing ! $ move ! (1 ∷ 0 ∷ []) $ join ! $ nothing ! $ move ! (2 ∷ 0 ∷ []) $ fjoin ! $
      move ! (1 ∷ 0 ∷ []) $ join ! $ frame ! $ done !

  place_back : (v w : Val) → Room x.now n bytes.now
      → ent 𝓤 ((Place 𝓛 mem run).post (to_place v) w)
      (H.⇛ (sep 𝓤 (A.lft κ q) (sep 𝓤 (sem 𝓛 Gave) (sem 𝓛 (usize.own_val h₁.place (w ∷ []))))))
  place_back v w room =
      qed 𝓛 (later (some (λ (r : ℕ). ((‵ (flft κ q) ⊛ ‵ ftrue) ⊛ ‵ (usize.own_val r (w ∷ []))) ⊛ some
      (λ (zs : (List ℕ × Unit {0}) × Unit {0}). ‵ (lasts place.ended (κ, tt) (h₁, tt) zs) ⊛ raw (fact 𝓤 ((r ≡ h₁.place) × (zs.0.0 ≡ h₁.page.now))))))
      ∷ []) ∵ updating ! $ await ! tt $ pick ! (λ r.
      split ! $ move ! (1 ∷ []) $ pick ! (λ zs. split ! $ move ! (1 ∷ []) $ heard ! ((r ≡ h₁.place) × (zs.0.0 ≡ h₁.page.now)) (λ e. fsplit ! $
      fsplit ! $ fsplit ! $ fsplit ! $
      -- [the last list; as long as the list passed; the borrow; true; true; the token and the result]
      rewrite ! 0 (λ (l : List ℕ). ‵ (finally u8 x.ghost_name l)) e.1 refl $
      rewrite ! 2 (λ (m : ℕ). ‵ (Borrow m)) (bytes_length x.now n bytes.now room) refl $
      move ! (0 ∷ 2 ∷ []) $ fjoin ! $ move ! (4 ∷ []) $ split ! $
      rewrite ! 1 (λ (m : ℕ). ‵ (usize.own_val m (w ∷ []))) e.0 refl $
      split ! $ keep ! (0 ∷ 3 ∷ 2 ∷ []) $ at_once ! $ done !)))

  exits : (v : Val) → Room x.now n bytes.now
      → ent 𝓤 (⋆ 𝓛 (‵ (flft κ q) ∷ raw tokens ∷ ‵ Gave ∷ ‵ (usize.own_val h₁.place (v ∷ [])) ∷ [])) (Post v)
  exits v room =
      qed 𝓛 (‵ (flft κ q) ∷ raw tokens ∷ ‵ Gave ∷ ‵ (usize.own_val h₁.place (v ∷ [])) ∷ []) ∵
      suffices ! _ (ends_at 𝓛 write.ended stayed (write.clauses 𝓛 mem run) (((κ, (κ₁, tt)), (q, (q₁, tt)), tt, a, vals), tt) v
      h₁.place (h₁.page.now, (tt, (tt, tt))) (bytes_length x.now n bytes.now room, (tt, (tt, tt)))) $
      says ! (record { filled = refl; moved = refl }) $ join ! $ frame ! $
      nothing ! $ nothing ! $ fjoin ! $ nothing ! $ fjoin ! $ move ! (1 ∷ 0 ∷ []) $ fjoin ! $ frame ! $ done !

  module _ (C : Calls 𝓤 H) (Λ : Loops 𝓤 H) (fm : FmC 𝓤 H 𝓛.laws C) (known-new : Triple 𝓤 (C #writer·new) (New 𝓛 mem run))
      (known-put : Triple 𝓤 (C #writer·put) (Put 𝓛 mem run)) (known-place : Triple 𝓤 (C #writer·place) (Place 𝓛 mem run)) where
    walk : SliceRoom u8 (length x.now) → SliceRoom u8 (length bytes.now) → Room x.now n bytes.now
        → ent 𝓤 (on_entry 𝓛 write.signature (κ, (κ₁, tt)) (q, (q₁, tt)) a vals)
        (WpFn 𝓤 H C Λ code.function (s ∷ vint w64 n ∷ slice_val bytes.ref_ptr (length bytes.now) ∷ []) Post)
    walk page-room bytes-room room =
        qed 𝓛 ((‵ (flft κ q) ⊛ raw tokens) ∷ ‵ (owns (MutSlice (named 0) κ u8 ∷ usize ∷ ShrSlice (named 1) κ₁ u8 ∷ []) a vals) ∷ []) ∵
        split ! $ move ! (2 ∷ []) $ fsplit ! $ move ! (1 ∷ []) $ fsplit ! $ drop ! $ move ! (2 ∷ 1 ∷ 3 ∷ []) $
        -- [the page's token; the page; the other tokens; what the bytes own]
        enter ! C Λ code.function (s ∷ vint w64 n ∷ slice_val bytes.ref_ptr (length bytes.now) ∷ []) _ $
        alloc1 ! (λ l₀. alloc1 ! (λ l₁. alloc1 ! (λ l₂. alloc1 ! (λ l₃. alloc1 ! (λ l₄. alloc1 ! (λ l₅. alloc1 ! (λ l₆. alloc1 ! (λ l₇. alloc0 ! $ params1 ! $
        pass1 ! (init ! 12 refl (tt, (tt, (record { fits = page-room.0 }, tt)))) $ pass1 ! (init ! 10 refl (tt, record { fits = n-fits })) $
        pass1 ! (init ! 8 refl (tt, (tt, (record { fits = bytes-room.0 }, tt)))) $ pass0 ! $
        -- [_7; …; _6; …; _5; …; _4; …; _3; …; _2; …; _1; …; room for _0; …; the page's token; the page; the other tokens; what the bytes own]
        assigns ! (addr ! (from ! (fld ! refl (hop ! (look_in ! 12 (sub ! 0 refl (whole !))) (stop !))))) (from ! (stop !)) (init ! 2 refl (tt, tt)) $
        assigns ! (agg ! (and_then ! (load ! (from ! (stop !)) (look ! 2 refl))
        (and_then ! (load ! (from ! (fld ! refl (stop !))) (look_in ! 12 (sub ! 1 refl (whole !)))) (no_more !)))) (from ! (stop !))
        (init ! 0 refl (tt, (tt, (record { fits = page-room.0 }, tt)))) $
        -- `new`
        move ! (16 ∷ 17 ∷ []) $ use2 𝓛 (raw ((New 𝓛 mem run).pre to_new)) goes_new $
        calls_at ! fm (New 𝓛 mem run) known-new to_new
        (and_then ! (load ! (from ! (stop !)) (look ! 1 refl)) (and_then ! (load ! (from ! (stop !)) (look ! 11 refl)) (no_more !))) (λ v₀.
        use1 𝓛 (later (‵ (flft κ q) ⊛ ‵ (OwnWriter κ h₀ v₀))) (new_back v₀) $ await ! tt $ split ! $
        move ! (1 ∷ []) $ peeks ! R (Is R) (shows 𝓛 R) h₀ (v₀ ∷ []) (λ is₀.
        land ! (from ! (stop !)) (init ! 6 refl (typed κ h₀ v₀ is₀)) $
        -- [the writer; the page's token; _7; …; the other tokens; what the bytes own]: `put`
        move ! (0 ∷ 19 ∷ []) $ fjoin ! $ move ! (1 ∷ 18 ∷ []) $ join ! $ join ! $ use1 𝓛 (raw ((Put 𝓛 mem run).pre (to_put v₀))) (goes_put v₀ room) $
        calls_at ! fm (Put 𝓛 mem run) known-put (to_put v₀)
        (and_then ! (load ! (from ! (stop !)) (look ! 5 refl)) (and_then ! (load ! (from ! (stop !)) (look ! 9 refl)) (no_more !))) (λ v₁.
        use1 𝓛 (later ((‵ (flft κ q) ⊛ raw tokens) ⊛ ‵ (OwnWriter κ h₁ v₁))) (put_back v₀ v₁) $ await ! tt $ split ! $
        move ! (1 ∷ []) $ peeks ! R (Is R) (shows 𝓛 R) h₁ (v₁ ∷ []) (λ is₁.
        land ! (from ! (stop !)) (init ! 8 refl (typed κ h₁ v₁ is₁)) $
        -- [the writer; the tokens; _7; …]: `place`
        move ! (1 ∷ []) $ split ! $ move ! (0 ∷ 2 ∷ []) $ use2 𝓛 (raw ((Place 𝓛 mem run).pre (to_place v₁))) (goes_place v₁) $
        calls_at ! fm (Place 𝓛 mem run) known-place (to_place v₁) (and_then ! (load ! (from ! (stop !)) (look ! 8 refl)) (no_more !)) (λ v.
        use1 𝓛 (later (‵ (flft κ q) ⊛ (‵ Gave ⊛ ‵ (usize.own_val h₁.place (v ∷ []))))) (place_back v₁ v room) $ await ! tt $
        split ! $ move ! (1 ∷ []) $ split ! $ move ! (1 ∷ []) $ peeks ! usize (Is usize) (shows 𝓛 usize) h₁.place (v ∷ []) (λ is.
        -- [the result; the last list; the page's token; the other tokens; _7; …]
        land ! (from ! (stop !)) (init ! 18 refl ((uint_Lawful 𝓛 w64).typed h₁.place _ is).0) $
        returns ! (look ! 18 refl) $ forget ! 4 refl $ forget ! 6 refl $ forget ! 8 refl $ forget ! 10 refl $ forget ! 12 refl $ forget ! 14 refl $
        forget ! 16 refl $ forget ! 18 refl $
        move ! (18 ∷ 19 ∷ []) $ free1 ! $ move ! (16 ∷ 17 ∷ []) $ free1 ! $ move ! (14 ∷ 15 ∷ []) $ free1 ! $ move ! (12 ∷ 13 ∷ []) $ free1 ! $
        move ! (10 ∷ 11 ∷ []) $ free1 ! $ move ! (8 ∷ 9 ∷ []) $ free1 ! $ move ! (6 ∷ 7 ∷ []) $ free1 ! $ move ! (4 ∷ 5 ∷ []) $ free1 ! $ free0 ! $
        keep ! (2 ∷ 3 ∷ 1 ∷ 0 ∷ []) $ by ! (exits v room)))))))))))))))

module _ {M : Type 1} {𝓤 : Ura M} (𝓛 : Logic 𝓤) (mem : Memory → SProp 𝓤) (run : Routine → Fun 𝓤) where
  open 𝓛 use {H}

  write_walks : (C : Calls 𝓤 H) (Λ : Loops 𝓤 H) → FmC 𝓤 H 𝓛.laws C → Triple 𝓤 (C #writer·new) (New 𝓛 mem run)
      → Triple 𝓤 (C #writer·put) (Put 𝓛 mem run) → Triple 𝓤 (C #writer·place) (Place 𝓛 mem run)
      → Walks 𝓛 write.ended stayed (WpFn 𝓤 H C Λ code.function) (write.clauses 𝓛 mem run)
  write_walks C Λ fm known-new known-put known-place =
      walked 𝓛 write.ended stayed (write.clauses 𝓛 mem run) (WpFn 𝓤 H C Λ code.function) (λ κs. (mut_slice_vals, (uint_vals w64, (shr_slice_vals, tt))))
      (λ κs. (mut_slice_Tells (named 0) κs.0 u8, (uint_Tells w64, (shr_slice_Tells (named 1) κs.1.0 u8, tt))))
      (λ κs qs bounds a g are. needs 𝓤 (Room a.0.now a.1.0 a.1.1.0.now) _ (λ room.
      walk 𝓛 mem run κs.0 κs.1.0 qs.0 qs.1.0 a.0 a.1.0 a.1.1.0 are.1.0.1
      C Λ fm known-new known-put known-place are.0.0.1 are.1.1.0.0.1 room))

write_meets : {M : Type 1} {𝓤 : Ura M} (𝓛 : Logic 𝓤) → (mem : Memory → SProp 𝓤) (run : Routine → Fun 𝓤) (𝓣 : Tables 𝓤 𝓛.H)
    → Triple 𝓤 (𝓣.C #writer·new) (New 𝓛 mem run) → Triple 𝓤 (𝓣.C #writer·put) (Put 𝓛 mem run)
    → Triple 𝓤 (𝓣.C #writer·place) (Place 𝓛 mem run) → Meets 𝓛 write.signature (WpFn 𝓤 𝓛.H 𝓣.C 𝓣.Λ code.function) (write.spec 𝓛 mem run)
write_meets {𝓤 = 𝓤} 𝓛 mem run 𝓣 known-new known-put known-place =
    walk_Meets 𝓛 write.ended stayed
    (Goes-gave_slice 𝓛 2 0 tt (plain (λ _. u8)), (λ κs x f vs fits. 𝓛.laws.⇛_intro _, (λ κs x f vs fits. 𝓛.laws.⇛_intro _, tt)))
    (write.clauses 𝓛 mem run) (WpFn 𝓤 𝓛.H 𝓣.C 𝓣.Λ code.function) (WpFn-mono 𝓤 𝓛.H 𝓛.laws 𝓣 code.function)
    (write_walks 𝓛 mem run 𝓣.C 𝓣.Λ (fm_of 𝓤 𝓛.H 𝓛.laws 𝓣) known-new known-put known-place)

pub write_spec : {M : Type 1} → stated.statement M
unfolding tables_of
write_spec 𝓤 𝓛 𝓜 𝓡 wired =
    let 𝓣 = tables 𝓤 𝓛.H 𝓜 𝓡 𝓡.env in
    entered 𝓤 𝓛.H (triple_of 𝓛 write.signature (write.spec 𝓛 𝓜.mem 𝓡.returns)) 𝓣.C 𝓣.Λ #writer·write code.function (code.unfolded 𝓤 𝓛.H 𝓜 𝓡 wired)
    (write_meets 𝓛 𝓜.mem 𝓡.returns (tables_of 𝓤 𝓛.H 𝓜 𝓣)
    (new-thm.met 𝓤 𝓛 𝓜 𝓡 (code.calls-print_writer::new 𝓡.env wired))
    (put-thm.met 𝓤 𝓛 𝓜 𝓡 (code.calls-print_writer::put 𝓡.env wired))
    (place-thm.met 𝓤 𝓛 𝓜 𝓡 (code.calls-print_writer::place 𝓡.env wired)))
