-- `none` makes a value of no bytes, whose ghost field is the empty list.
use mathlib.Core.{List.{[], ◌∷◌}, Path.refl}
use seplogic.Ra.Ura.{Ura}
use mir.Val.{Val, vstruct, vcons, vnil}
use base.{Logic.{SProp, ent}, Fml.Fml}
use prog.{Memory.Memory, Routine.Routine, Wp.{Calls, Loops, WpFn, Tables}}
use types.Logic.{Logic}
use contract.{Monad.Fun, Running.{tables, tables_of}}
use sound.WpLaws.{WpFn-mono}
use types.{Kit.{‵, raw, ◌⊛◌, ◌$◌, ◌∵◌, !, qed, move, keep, split, join, use0, suffices, done}, Run.{no_more, and_then, returns, enter}, Part.agg}
use types.ByLocal.{alloc_all, pass_all, free_all, look_at, get, sets}
use denote.{RattleType.owns, Shadow.makes_shadow, Signature.{types_at, type_at}, Steps.nothing, Triple.{Clauses.Clauses, Entry.alive, Spec.{Meets, triple_of}}}
use denote.Triple.{Table.entered, Walked.{says, Stays, walk_of, ends_at, walk_Meets}}
use Rattle.redact.specs.contracts.fed_lines.Fed.none.Key.{name as #self}
use Rattle.redact.specs.contracts.fed_lines.Fed.none as f
use Rattle.redact.proofs.fed_lines.Fed.none.Statement as stated
use Rattle.redact.proofs.fed_lines.Fed.none.Code as code

abbrev stayed : Stays (f.ended).signature.params (f.ended).kept
stayed = tt

module _ {M : Type 1} {𝓤 : Ura M} (𝓛 : Logic 𝓤) (at_mem : Memory → SProp 𝓤) (run : Routine → Fun 𝓤) where
  open 𝓛 use {H}

  abbrev held : Clauses 𝓤 f.ended
  held = f.clauses 𝓛 at_mem run

  module _ (C : Calls 𝓤 H) (Λ : Loops 𝓤 H) (z : (walk_of 𝓛 f.ended stayed held).Ghost) where
    abbrev toks : SProp 𝓤
    toks = alive 𝓛 (f.ended).signature z.0.0 z.0.1

    abbrev passed : Fml
    passed = owns (types_at (f.ended).signature.params z.0.0) z.0.3 z.0.4

    walks : ent 𝓤 ((walk_of 𝓛 f.ended stayed held).pre z) (WpFn 𝓤 H C Λ code.function [] ((walk_of 𝓛 f.ended stayed held).post z))
    walks =
        let v : Val = vstruct (vcons (vstruct vnil) vnil) in let r : denote.Triple.Entry.Res (f.ended).signature z.0.0 = record { marker = record {}; lines = [] } in
        let O : Fml = (type_at (f.ended).signature.result z.0.0).own_val r (v ∷ []) in
        qed 𝓛 ((raw toks ⊛ ‵ passed) ∷ raw ((held z.0.0 z.0.3).requires z.1) ∷ []) ∵ split ! $ keep ! (0 ∷ []) $
        enter ! C Λ code.function [] _ $ alloc_all ! (λ l. pass_all ! refl tt $
        sets ! (agg ! (no_more !)) refl (tt, tt) $ sets ! (agg ! (and_then ! (get ! refl) (no_more !))) refl (tt, (tt, tt)) $
        returns ! (look_at ! 0 refl) $ free_all ! refl $
        use0 𝓛 (‵ O) (makes_shadow 𝓛 O ((λ vss. (tt, ((λ uss. (tt, tt)), tt))), tt) (((vstruct vnil ∷ [], tt), (refl, ((tt, (refl, tt)), tt))), tt)) $
        suffices ! _ (ends_at 𝓛 f.ended stayed held z v r tt tt) $ says ! refl $
        nothing ! $ join ! $ move ! (1 ∷ 0 ∷ []) $ join ! $ done !)

  meets : (𝓣 : Tables 𝓤 H) → Meets 𝓛 (f.ended).signature (WpFn 𝓤 H 𝓣.C 𝓣.Λ code.function) (f.spec 𝓛 at_mem run)
  meets 𝓣 =
      walk_Meets 𝓛 f.ended stayed tt held
      (WpFn 𝓤 H 𝓣.C 𝓣.Λ code.function) (WpFn-mono 𝓤 H 𝓛.laws 𝓣 code.function)
      (λ z. walks 𝓣.C 𝓣.Λ z)

pub none_spec : {M : Type 1} → stated.statement M
unfolding tables_of
none_spec 𝓤 𝓛 𝓜 𝓡 wired =
    let 𝓣 : Tables 𝓤 𝓛.H = tables_of 𝓤 𝓛.H 𝓜 (tables 𝓤 𝓛.H 𝓜 𝓡 𝓡.env) in
    entered 𝓤 𝓛.H (triple_of 𝓛 (f.ended).signature (f.spec 𝓛 𝓜.mem 𝓡.returns)) 𝓣.C 𝓣.Λ #self code.function (code.unfolded 𝓤 𝓛.H 𝓜 𝓡 wired)
    (meets 𝓛 𝓜.mem 𝓡.returns 𝓣)
