use Rattle.std.proofs.{Common.{List, [], ◌∷◌, ◌++◌, refl}, lemmas.List.Sorted.{IsPermutation-sym, IsPermutation-trans, IsPermutation-map}}
use Rattle.{std.specs.List.Sorted.IsPermutation, sqlite_value.specs.Order.Row, sqlite_rules.specs.Lists.Has, hub_store.proofs.Edits.Inside.goes_then}
use Rattle.hub_store.proofs.Edits.Steps.{on_ok, clean_before, makes_then, fails_then, fails_passed, failed_goes, goes_passed, makes_passed}
use Rattle.hub_store.{proofs.{Rows.Lists.has_permuted, Versions.Remaking.{asked_goes, asked_makes, asked_fails, anew_permuted}}, specs.Layout.under}
use Rattle.hub_store.specs.Parts.{HoldsParts}
use Rattle.hub_store.proofs.remake.remake.Goals as goal

pub returns-in_err-rows-clause-goes : goal.returns-in_err-rows-clause-goes
returns-in_err-rows-clause-goes g c = goes_passed c.from_residual.ensures.1 (failed_goes c.in_err-rows.ensures.failed c.in_err-rows.ensures.survives)

pub returns-in_err-rows-clause-made : goal.returns-in_err-rows-clause-made
returns-in_err-rows-clause-made g c step before ps rows it = makes_passed c.from_residual.ensures.1 (failed_goes c.in_err-rows.ensures.failed c.in_err-rows.ensures.survives)

pub returns-in_err-rows-clause-cause : goal.returns-in_err-rows-clause-cause
returns-in_err-rows-clause-cause g c step before ps rows it takes =
    fails_passed {T = Unit {0}} {P = HoldsParts (under before ps)} c.from_residual.ensures.1 (asked_fails g.S.Store c.args.texts.now.read.now _ _ (HoldsParts (under before ps)) _ it.unread c.in_err-rows.ensures.refused)

pub returns-in_err-set_version-clause-goes : goal.returns-in_err-set_version-clause-goes
returns-in_err-set_version-clause-goes g c =
    let asked = asked_goes g.S.Store c.args.texts.now.read.now _ _ c.in_ok-rows.rows.items c.in_ok-rows.ensures.survives c.in_ok-rows.ensures.shown in
    goes_passed c.from_residual-in_err-set_version.ensures.1 (goes_then _ _ _ _ _ asked (c.in_err-set_version.ensures.made 0 [] refl).goes)

pub returns-in_err-set_version-clause-made : goal.returns-in_err-set_version-clause-made
returns-in_err-set_version-clause-made g c step before ps rows it =
    let asked = asked_goes g.S.Store c.args.texts.now.read.now _ _ c.in_ok-rows.rows.items c.in_ok-rows.ensures.survives c.in_ok-rows.ensures.shown in
    makes_passed c.from_residual-in_err-set_version.ensures.1 (goes_then _ _ _ _ _ asked (c.in_err-set_version.ensures.made 0 [] refl).goes)

pub returns-in_err-set_version-clause-cause : goal.returns-in_err-set_version-clause-cause
returns-in_err-set_version-clause-cause g c step before ps rows it takes =
    let asked = asked_makes g.S.Store c.args.texts.now.read.now _ _ (HoldsParts (under before ps)) rows c.in_ok-rows.rows.items it.reads c.in_ok-rows.ensures.survives c.in_ok-rows.ensures.shown in
    let set = c.in_err-set_version.ensures in
    fails_passed c.from_residual-in_err-set_version.ensures.1 (fails_then asked (set.made 0 [] refl).goes (set.cause before ps it.beside))

pub returns-in_err-make_anew-clause-goes : goal.returns-in_err-make_anew-clause-goes
returns-in_err-make_anew-clause-goes g c =
    let asked = asked_goes g.S.Store c.args.texts.now.read.now _ _ c.in_ok-rows.rows.items c.in_ok-rows.ensures.survives c.in_ok-rows.ensures.shown in
    goes_passed c.from_residual-in_err-make_anew.ensures.1 (goes_then _ _ _ _ _ (goes_then _ _ _ _ _ asked (c.in_ok-set_version.ensures.made 0 [] refl).goes) c.in_err-make_anew.ensures.goes)

pub returns-in_err-make_anew-clause-made : goal.returns-in_err-make_anew-clause-made
returns-in_err-make_anew-clause-made g c step before ps rows it =
    let asked = asked_goes g.S.Store c.args.texts.now.read.now _ _ c.in_ok-rows.rows.items c.in_ok-rows.ensures.survives c.in_ok-rows.ensures.shown in
    makes_passed c.from_residual-in_err-make_anew.ensures.1 (goes_then _ _ _ _ _ (goes_then _ _ _ _ _ asked (c.in_ok-set_version.ensures.made 0 [] refl).goes) c.in_err-make_anew.ensures.goes)

pub returns-in_err-make_anew-clause-cause : goal.returns-in_err-make_anew-clause-cause
returns-in_err-make_anew-clause-cause g c step before ps rows it takes =
    let asked = asked_makes g.S.Store c.args.texts.now.read.now _ _ (HoldsParts (under before ps)) rows c.in_ok-rows.rows.items it.reads c.in_ok-rows.ensures.survives c.in_ok-rows.ensures.shown in
    let first = makes_then _ _ _ _ (HoldsParts (under before ps)) _ _ _ asked (c.in_ok-set_version.ensures.made before ps it.beside) in
    fails_passed c.from_residual-in_err-make_anew.ensures.1 (fails_then first c.in_err-make_anew.ensures.goes (c.in_err-make_anew.ensures.cause step (under c.args.version ps) it.makes))

pub returns-clause-goes : goal.returns-clause-goes
returns-clause-goes g c =
    let asked = asked_goes g.S.Store c.args.texts.now.read.now _ _ c.in_ok-rows.rows.items c.in_ok-rows.ensures.survives c.in_ok-rows.ensures.shown in
    goes_then _ _ _ _ _ (goes_then _ _ _ _ _ (goes_then _ _ _ _ _ asked (c.in_ok-set_version.ensures.made 0 [] refl).goes) c.in_ok-make_anew.ensures.goes) c.put_rows.ensures.goes

pub returns-clause-made : goal.returns-clause-made
returns-clause-made g c step before ps rows it =
    let found = c.in_ok-rows.rows.items in
    let version = under c.args.version ps in
    let asked = asked_makes g.S.Store c.args.texts.now.read.now _ _ (HoldsParts (under before ps)) rows found it.reads c.in_ok-rows.ensures.survives c.in_ok-rows.ensures.shown in
    let set = c.in_ok-set_version.ensures.made before ps it.beside in
    let make = c.in_ok-make_anew.ensures.made step version it.makes in
    let whole = makes_then _ _ _ _ (HoldsParts version) _ _ _ (makes_then _ _ _ _ (HoldsParts (under before ps)) _ _ _ asked set) make in
    let put = rw c.deref.ensures.value at c.put_rows.ensures.made in
    record {
      goes = goes_then _ _ _ _ _ whole.goes c.put_rows.ensures.goes;
      made = λ clean inside has.
          let last = clean_before _ _ c.put_rows.ensures.goes.survives clean in
          let late = clean_before _ _ make.goes.survives last in
          let early = clean_before _ _ set.goes.survives late in
          let same = (it.reads _ _ found (c.in_ok-rows.ensures.shown early) has).1 in
          let done = (put step version (λ row h. it.puts row (has_permuted found rows (IsPermutation-sym _ _ same) row h))).made clean (whole.goes.inside last inside).0 (whole.made last inside has) in
          on_ok c.put_rows.result _ _ (λ kept. (anew_permuted step version _ _ _ (IsPermutation-map step.row _ _ (IsPermutation-sym _ _ same)) kept).parts) done;
    }

pub returns-clause-cause : goal.returns-clause-cause
returns-clause-cause g c step before ps rows it takes =
    let found = c.in_ok-rows.rows.items in
    let version = under c.args.version ps in
    let asked = asked_makes g.S.Store c.args.texts.now.read.now _ _ (HoldsParts (under before ps)) rows found it.reads c.in_ok-rows.ensures.survives c.in_ok-rows.ensures.shown in
    let set = c.in_ok-set_version.ensures.made before ps it.beside in
    let make = c.in_ok-make_anew.ensures.made step version it.makes in
    let whole = makes_then _ _ _ _ (HoldsParts version) _ _ _ (makes_then _ _ _ _ (HoldsParts (under before ps)) _ _ _ asked set) make in
    let put = rw c.deref.ensures.value at c.put_rows.ensures.cause in
    record {
      cause = λ clean inside has.
          let last = clean_before _ _ c.put_rows.ensures.goes.survives clean in
          let late = clean_before _ _ make.goes.survives last in
          let early = clean_before _ _ set.goes.survives late in
          let same = (it.reads _ _ found (c.in_ok-rows.ensures.shown early) has).1 in
          let puts = λ (row : Row) (h : Has found row). it.puts row (has_permuted found rows (IsPermutation-sym _ _ same) row h) in
          let can = λ (row : Row) (kept rest : List Row) (is : IsPermutation (row ∷ kept ++ rest) found). takes row kept rest (IsPermutation-trans _ _ _ is (IsPermutation-sym _ _ same)) in
          (fails_then whole c.put_rows.ensures.goes (put step version puts can)).cause clean inside has;
    }
