use Rattle.std.proofs.Common.{◌∙◌, ap, map, sym}
use Rattle.abt_machine.specs.Declaring.{Above}
use Rattle.abt_machine.specs.Forms.{form_of}
use Rattle.abt_workload.proofs.Verdicts.{line-control, line-misplaced}
use Rattle.abt_workload.proofs.draft.Draft.shape.Goals as goal

pub returns-then-has_control : goal.returns-then-has_control
returns-then-has_control c = line-control c.args.self.now c.args.line.now (map (λ w. w.now) c.args.words.now) c.in-Some.form c.form_of.result c.is_utf8.ensures c.if-not-is_utf8.false c.is_no_version.ensures c.if-is_no_version.false (c.form_of.ensures ∙ ap (λ (a : Above). form_of a.format (map (λ w. w.now) c.args.words.now)) c.self.view_is) c.in-Some.is c.has_control.ensures c.if-has_control.true

pub returns-then-is_misplaced : goal.returns-then-is_misplaced
returns-then-is_misplaced c = line-misplaced c.args.self.now c.args.line.now (map (λ w. w.now) c.args.words.now) c.in-Some.form c.form_of.result c.is_utf8.ensures c.if-not-is_utf8.false c.is_no_version.ensures c.if-is_no_version.false (c.form_of.ensures ∙ ap (λ (a : Above). form_of a.format (map (λ w. w.now) c.args.words.now)) c.self.view_is) c.in-Some.is c.is_misplaced.ensures c.if-is_misplaced.true

pub returns : goal.returns
returns c =
    let is = c.form_of.ensures ∙ ap (λ (a : Above). form_of a.format (map (λ w. w.now) c.args.words.now)) c.self.view_is in
    record {
      utf8 = sym c.is_utf8.ensures ∙ c.if-not-is_utf8.false;
      version = sym c.is_no_version.ensures ∙ c.if-is_no_version.false;
      form_is = sym is ∙ c.in-Some.is;
      control = sym c.has_control.ensures ∙ c.if-has_control.false;
      placed = sym c.is_misplaced.ensures ∙ c.if-is_misplaced.false;
    }
