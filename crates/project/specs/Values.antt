-- What a record of the sheet holds, by the record in hand.
use Rattle.project.specs.declared.Activity.{Activity}
use Rattle.project.specs.declared.Relationship.{Relationship}
use Rattle.project.specs.declared.Project.{Project}
use Rattle.project.specs.declared.activity_record.ActivityRecord.{ActivityRecord}
use Rattle.project.specs.declared.link_record.LinkRecord.{LinkRecord}
use Rattle.project.specs.declared.project_record.ProjectRecord.{ProjectRecord}
use Rattle.project.specs.Records.{activity_at, relationship_at, project_at}

abbrev pub activity_in : ActivityRecord → Activity
activity_in r = activity_at r.sheet.now r.at

abbrev pub relationship_in : LinkRecord → Relationship
relationship_in r = relationship_at r.sheet.now r.at

abbrev pub project_in : ProjectRecord → Project
project_in r = project_at r.sheet.now r.at
