use Rattle.std.proofs.Common.{map, refl, ap, ◌∙◌, [], ◌∷◌, ◌++◌}
use Rattle.issuer_host.specs.Books.{kept_at}
use Rattle.issuer_host.specs.Keeping.{kept_message, seen_kept_call}
use Rattle.issuer_host.proofs.Tables.{message_kept}
use Rattle.issuer_host.proofs.keeping.Keeping.put.Goals as goal

pub returns-in-Ok-clause-ok : goal.returns-in-Ok-clause-ok
returns-in-Ok-clause-ok c =
    ap (map seen_kept_call) c.in-Ok.ensures.entries ∙ message_kept _ c.args.key c.args.kept c.self.inside.table.entries (λ k. refl) (ap (kept_at c.args.key) c.self.view_is ∙ c.requires)
    ∙ ap (λ l. l ++ kept_message c.args.key c.args.kept ∷ []) c.self.view_is
