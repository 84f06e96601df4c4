mod EachWorker
