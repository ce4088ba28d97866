-- The report of an input that is accepted and not run (this project's profile).
use Rattle.std.specs.Prelude.{ℕ, List, [], ◌∷◌, codes, decimal, length}
use Rattle.net_types.specs.declared.project.Project.{Project}
use Rattle.report_writer.specs.Texts.{joined}

-- the heading, and how many subcatchments, nodes and links the project has
unfoldable pub accepted_report : Project → List ℕ
accepted_report project =
    joined (codes "SWMM5-FX REPORT\n\nInput Accepted\nSubcatchments " ∷ decimal (length project.subs)
    ∷ codes "\nNodes " ∷ decimal (length project.nodes)
    ∷ codes "\nLinks " ∷ decimal (length project.links) ∷ codes "\n" ∷ [])
