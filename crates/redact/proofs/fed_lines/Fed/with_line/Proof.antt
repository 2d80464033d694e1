-- `with_line` makes a value of no bytes, whose ghost field is the old list with the line at its end.
use mathlib.Core.{List.{List, [], ◌∷◌, ◌++◌}, Path.{refl, sym, subst}}
use Prim.Native.Nat.{ℕ}
use seplogic.Ra.Ura.{Ura}
use mir.Val.{Val, vptr, vstruct, vcons, vnil}
use base.{Logic.{SProp, ent, via, fst∗, snd∗}, Fml.Fml}
use prog.{Memory.Memory, Routine.Routine, Wp.{Calls, Loops, WpFn, Tables}}
use types.Logic.{Logic, sem}
use contract.{Monad.{Fun, fact_use}, Running.{tables, tables_of}}
use sound.WpLaws.{WpFn-mono}
use types.{Kit.{‵, raw, ◌⊛◌, ◌$◌, ◌∵◌, !, qed, move, keep, split, join, fjoin, use0, suffices, done}, Run.{no_more, and_then, returns, enter}, Part.agg}
use types.ByLocal.{alloc_all, pass_all, free_all, look_at, get, sets}
use denote.{RattleType.{RattleType, owns}, Exit.yes, Laws.{Are, Ises, owns_show, showss}, Shadow.makes_shadow, Builtin.RefOf, Signature.{types_at, type_at}}
use denote.{Signature.plain, Steps.nothing, Triple.{Clauses.Clauses, Entry.{on_entry, alive}, Spec.{Meets, triple_of}, Table.entered, Walked.{says, Stays}}}
use denote.Triple.Walked.{stay_dropped, walk_of, ends_at, Goes-dropped, walk_Meets}
use Rattle.{iodef_tree.specs.contracts.line.Line.the_row as line_row, redact.specs.contracts.fed_lines.Fed.{the_row, with_line.Key.name as #self}}
use Rattle.redact.specs.contracts.fed_lines.Fed.with_line as f
use Rattle.redact.proofs.fed_lines.Fed.with_line.Statement as stated
use Rattle.redact.proofs.fed_lines.Fed.with_line.Code as code

abbrev stayed : Stays (f.ended).signature.params (f.ended).kept
stayed = (stay_dropped (RefOf (0 ∷ []) tt (plain (λ _. the_row)) (λ _. tt)) yes, (stay_dropped (RefOf (1 ∷ []) tt (plain (λ _. line_row)) (λ _. tt)) yes, tt))

module _ {M : Type 1} {𝓤 : Ura M} (𝓛 : Logic 𝓤) (at_mem : Memory → SProp 𝓤) (run : Routine → Fun 𝓤) where
  open 𝓛 use {H}

  abbrev held : Clauses 𝓤 f.ended
  held = f.clauses 𝓛 at_mem run

  module _ (C : Calls 𝓤 H) (Λ : Loops 𝓤 H) (z : (walk_of 𝓛 f.ended stayed held).Ghost) where
    abbrev At : List Val × (List Val × Unit {0}) → (walk_of 𝓛 f.ended stayed held).Ghost
    At us = ((z.0.0, z.0.1, z.0.2, z.0.3, us), z.1)

    abbrev b : ℕ
    b = z.0.3.0.ref_ptr.0

    abbrev o : ℕ
    o = z.0.3.0.ref_ptr.1

    abbrev b' : ℕ
    b' = z.0.3.1.0.ref_ptr.0

    abbrev o' : ℕ
    o' = z.0.3.1.0.ref_ptr.1

    abbrev words : List Val × (List Val × Unit {0})
    words = (vptr b o ∷ [], (vptr b' o' ∷ [], tt))

    abbrev Post : Val → SProp 𝓤
    Post = (walk_of 𝓛 f.ended stayed held).post (At words)

    abbrev toks : SProp 𝓤
    toks = alive 𝓛 (f.ended).signature z.0.0 z.0.1

    abbrev passed : Fml
    passed = owns (types_at (f.ended).signature.params z.0.0) z.0.3 words

    abbrev Goes : List Val → List Val → Type 1
    Goes us vs = ent 𝓤 ((walk_of 𝓛 f.ended stayed held).pre (At (us, (vs, tt)))) (WpFn 𝓤 H C Λ code.function (us ++ (vs ++ [])) ((walk_of 𝓛 f.ended stayed held).post (At (us, (vs, tt)))))

    walks : ent 𝓤 ((walk_of 𝓛 f.ended stayed held).pre (At words)) (WpFn 𝓤 H C Λ code.function (vptr b o ∷ vptr b' o' ∷ []) Post)
    walks =
        let v : Val = vstruct (vcons (vstruct vnil) vnil) in let r : denote.Triple.Entry.Res (f.ended).signature z.0.0 = record { marker = record {}; lines = z.0.3.0.now.lines ++ z.0.3.1.0.now ∷ [] } in
        let O : Fml = (type_at (f.ended).signature.result z.0.0).own_val r (v ∷ []) in
        qed 𝓛 ((raw toks ⊛ ‵ passed) ∷ raw ((held z.0.0 z.0.3).requires z.1) ∷ []) ∵ split ! $ keep ! (0 ∷ []) $
        enter ! C Λ code.function (vptr b o ∷ vptr b' o' ∷ []) _ $ alloc_all ! (λ l. pass_all ! refl ((tt, tt), ((tt, tt), tt)) $
        sets ! (agg ! (no_more !)) refl (tt, tt) $ sets ! (agg ! (and_then ! (get ! refl) (no_more !))) refl (tt, (tt, tt)) $
        returns ! (look_at ! 0 refl) $ free_all ! refl $
        use0 𝓛 (‵ O) (makes_shadow 𝓛 O ((λ vss. (tt, ((λ uss. (tt, tt)), tt))), tt) (((vstruct vnil ∷ [], tt), (refl, ((tt, (refl, tt)), tt))), tt)) $
        suffices ! _ (ends_at 𝓛 f.ended stayed held (At words) v r (tt, (tt, tt)) (tt, (tt, tt))) $ says ! refl $
        nothing ! $ nothing ! $ fjoin ! $ nothing ! $ fjoin ! $ join ! $ move ! (1 ∷ 0 ∷ []) $ join ! $ done !)

  meets : (𝓣 : Tables 𝓤 H) → Meets 𝓛 (f.ended).signature (WpFn 𝓤 H 𝓣.C 𝓣.Λ code.function) (f.spec 𝓛 at_mem run)
  meets 𝓣 =
      walk_Meets 𝓛 f.ended stayed (Goes-dropped 𝓛 2 (RefOf (0 ∷ []) tt (plain (λ _. the_row)) (λ _. tt)) yes (λ κs x w. refl), (Goes-dropped 𝓛 2 (RefOf (1 ∷ []) tt (plain (λ _. line_row)) (λ _. tt)) yes (λ κs x w. refl), tt)) held
      (WpFn 𝓤 H 𝓣.C 𝓣.Λ code.function) (WpFn-mono 𝓤 H 𝓛.laws 𝓣 code.function)
      (λ z. let a = z.0.3 in let vss = z.0.4 in let Rs : List RattleType = types_at (f.ended).signature.params z.0.0 in
      fact_use 𝓤 (Are Rs (Ises Rs) a vss) (via 𝓤 (sem 𝓛 (owns Rs a vss)) (via 𝓤 (on_entry 𝓛 (f.ended).signature z.0.0 z.0.1 a vss) (fst∗ 𝓤 (on_entry 𝓛 (f.ended).signature z.0.0 z.0.1 a vss) ((held z.0.0 a).requires z.1)) (snd∗ 𝓤 (alive 𝓛 (f.ended).signature z.0.0 z.0.1) (sem 𝓛 (owns Rs a vss)))) (owns_show 𝓛 Rs (Ises Rs) (showss 𝓛 Rs) a vss)) (λ are.
      subst (λ us. Goes 𝓣.C 𝓣.Λ z us z.0.4.1.0) (sym are.0.0) (subst (λ vs. Goes 𝓣.C 𝓣.Λ z (vptr (b 𝓣.C 𝓣.Λ z) (o 𝓣.C 𝓣.Λ z) ∷ []) vs) (sym are.1.0.0) (walks 𝓣.C 𝓣.Λ z))))

pub with_line_spec : {M : Type 1} → stated.statement M
unfolding tables_of
with_line_spec 𝓤 𝓛 𝓜 𝓡 wired =
    let 𝓣 : Tables 𝓤 𝓛.H = tables_of 𝓤 𝓛.H 𝓜 (tables 𝓤 𝓛.H 𝓜 𝓡 𝓡.env) in
    entered 𝓤 𝓛.H (triple_of 𝓛 (f.ended).signature (f.spec 𝓛 𝓜.mem 𝓡.returns)) 𝓣.C 𝓣.Λ #self code.function (code.unfolded 𝓤 𝓛.H 𝓜 𝓡 wired)
    (meets 𝓛 𝓜.mem 𝓡.returns 𝓣)
